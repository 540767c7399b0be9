use Rattle.std.proofs.Common.{◌≡◌, ◌≢◌, ◌+◌, ◌<◌, [], ◌∷◌, ◌++◌, length, map, Result, Ok, Err, string_bytes, rules, refl, sym, ap, subst, ◌∙◌, arith}
use Rattle.std.proofs.lemmas.List.{map_push}
use Rattle.ert_effects.specs.{TimerCalls.Starts, declared.answers.StartErr.StartErr, declared.answers.StartErr.TheVariants.NoMemory}
use Rattle.ert_defs.specs.declared.timer.TimerRef.{TimerRef}
use Rattle.ert_names.specs.{Calls.{HasStartedForName, StartsAt, StartsNamed, start_for_name}, Fits.FitsNames, Registered.{Registered, RowSeen, seen_with_names, row_seen}}
use Rattle.ert_names.proofs.{Fitting.{starts_fit, refused_start_fits}, Handing.{refused_named, place_is, place_of, longer_by}, Living.{names_by, names_more}}
use Rattle.ert_world.specs.{Frees.IsUsedUpAt, Worlds.{Goes, By}}
use Rattle.ert_names.proofs.world.NameWorld.start_named.Goals as goal

pub invariant_of-self-in_err-timer : goal.invariant_of-self-in_err-timer
invariant_of-self-in_err-timer c =
    let n = length c.self.inside.rows.items in
    let w = c.self.inside.world in
    let start = start_for_name c.args.when c.len.result in
    let e : StartErr = c.in_err-timer.field-0.0 in
    let result : c.start.result ≡ Err e = search rules in
    let goes : Goes w (By w (λ g. Starts g 0 c.args.wheel start (Err e))) c.start.new.self =
    subst (λ r. Goes w (By w (λ g. Starts g 0 c.args.wheel start r)) c.start.new.self) result c.start.ensures.call in
    subst (λ (l : _). FitsNames (length l) c.self.inside.registry c.start.new.self) (sym c.reserve.ensures.items)
    (names_by n c.self.inside.registry w c.start.new.self (λ g. Starts g 0 c.args.wheel start (Err e)) (λ q s es. refused_start_fits n q w.settings 0 c.args.wheel start e s es) goes
    c.self.invariant)

pub returns-in_err-timer-clause-call : goal.returns-in_err-timer-clause-call
returns-in_err-timer-clause-call c =
    let w = c.self.inside.world in
    let start = start_for_name c.args.when c.len.result in
    let e : StartErr = c.in_err-timer.field-0.0 in
    let result : c.start.result ≡ Err e = search rules in
    let answer : c.from_residual.result ≡ Err e = search rules in
    let before = seen_with_names c.self.inside.world c.self.inside.registry c.self.inside.rows.items c.self.inside.mail.items in
    let after = seen_with_names c.start.new.self c.self.inside.registry c.reserve.new.self.items c.self.inside.mail.items in
    let row : RowSeen = record { name = c.args.name.now; msg = c.args.msg; kind = c.args.kind } in
    let place : c.len.result ≡ length before.rows = place_is c.len.result c.reserve.new.self.items c.self.inside.rows.items (c.len.ensures ∙ c.reserve.new.self.ok.0) c.reserve.ensures.items in
    let goes : Goes w (By w (λ g. Starts g 0 c.args.wheel start (Err e))) c.start.new.self =
    subst (λ r. Goes w (By w (λ g. Starts g 0 c.args.wheel start r)) c.start.new.self) result c.start.ensures.call in
    rw answer
    (subst (λ (w : Registered). StartsNamed w c.args.wheel c.args.when row (Err e) after) c.self.view_is
    (refused_named before after c.args.wheel c.args.when row e (subst (λ (r : Result TimerRef StartErr). r ≢ Err NoMemory) result c.start.ensures.memory)
    (record {
      goes = record {
        goes = subst (λ k. Goes w (By w (λ g. Starts g 0 c.args.wheel (start_for_name c.args.when k) (Err e))) c.start.new.self) place goes;
        lone = c.self.invariant.fits.lone;
      };
      names = refl;
      rows = ap (map row_seen) c.reserve.ensures.items;
      mail = refl;
    })))

pub invariant_of-self-2 : goal.invariant_of-self-2
invariant_of-self-2 c =
    let n = length c.self.inside.rows.items in
    let w = c.self.inside.world in
    let start = start_for_name c.args.when c.len.result in
    let place : c.len.result ≡ n = place_of c.len.result c.reserve.new.self.items c.self.inside.rows.items (c.len.ensures ∙ c.reserve.new.self.ok.0) c.reserve.ensures.items in
    let longer : length c.push_reserved.new.self.items ≡ n + 1 =
    longer_by c.push_reserved.new.self.items c.self.inside.rows.items (record { name = c.in-Ok.name; msg = c.args.msg; kind = c.args.kind })
    (c.push_reserved.ensures.items ∙ ap (λ l. l ++ (record { name = c.in-Ok.name; msg = c.args.msg; kind = c.args.kind }) ∷ []) c.reserve.ensures.items) in
    let low : start.msg < n + 1 = omega (arith, place) in
    subst (λ k. FitsNames k c.self.inside.registry c.start.new.self) (sym longer)
    (names_by (n + 1) c.self.inside.registry w c.start.new.self (λ g. Starts g 0 c.args.wheel start c.start.result)
    (λ q s es. starts_fit (n + 1) q w.settings 0 c.args.wheel start c.start.result s es (λ is. (refl, low))) c.start.ensures.call
    (names_more n (n + 1) c.self.inside.registry w (omega arith) c.self.invariant))

pub returns-clause-call : goal.returns-clause-call
returns-clause-call c =
    let w = c.self.inside.world in
    let start = start_for_name c.args.when c.len.result in
    let timer = c.in_ok-timer.timer in
    let result : c.start.result ≡ Ok timer = search rules in
    let before = seen_with_names c.self.inside.world c.self.inside.registry c.self.inside.rows.items c.self.inside.mail.items in
    let after = seen_with_names c.start.new.self c.self.inside.registry c.push_reserved.new.self.items c.self.inside.mail.items in
    let row : RowSeen = record { name = c.args.name.now; msg = c.args.msg; kind = c.args.kind } in
    let place : c.len.result ≡ length before.rows = place_is c.len.result c.reserve.new.self.items c.self.inside.rows.items (c.len.ensures ∙ c.reserve.new.self.ok.0) c.reserve.ensures.items in
    let goes : Goes w (By w (λ g. Starts g 0 c.args.wheel start (Ok timer))) c.start.new.self =
    subst (λ r. Goes w (By w (λ g. Starts g 0 c.args.wheel start r)) c.start.new.self) result c.start.ensures.call in
    let text : string_bytes c.in-Ok.name ≡ c.args.name.now = c.in-Ok.ensures.ok in
    subst (λ (w : Registered). HasStartedForName w row (StartsAt w c.args.wheel c.args.when (Ok timer)) after) c.self.view_is
    (record {
      goes = record {
        goes = subst (λ k. Goes w (By w (λ g. Starts g 0 c.args.wheel (start_for_name c.args.when k) (Ok timer))) c.start.new.self) place goes;
        lone = c.self.invariant.fits.lone;
      };
      names = refl;
      rows = ap (map row_seen) (c.push_reserved.ensures.items ∙ ap (λ l. l ++ (record { name = c.in-Ok.name; msg = c.args.msg; kind = c.args.kind }) ∷ []) c.reserve.ensures.items)
          ∙ (map_push row_seen c.self.inside.rows.items (record { name = c.in-Ok.name; msg = c.args.msg; kind = c.args.kind })
          ∙ ap (λ t. map row_seen c.self.inside.rows.items ++ (record { name = t; msg = c.args.msg; kind = c.args.kind }) ∷ []) text);
      mail = refl;
    })

pub returns-in_err-timer-clause-full : goal.returns-in_err-timer-clause-full
returns-in_err-timer-clause-full c = λ is.
    let e : StartErr = c.in_err-timer.field-0.0 in
    let result : c.start.result ≡ Err e = search rules in
    let answer : c.from_residual.result ≡ Err e = search rules in
    subst (λ (w : Registered). IsUsedUpAt w.world c.start.new.self c.args.wheel) c.self.view_is (c.start.ensures.full (result ∙ (sym answer ∙ is)))
