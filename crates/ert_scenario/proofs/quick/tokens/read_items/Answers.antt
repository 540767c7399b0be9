use Rattle.std.proofs.Common.{◌≡◌, ◌∷◌, Some, None, sym, subst, arith}
use Rattle.json.specs.{Json.after_end_array, Reads.token_of}
use Rattle.serde_json.specs.View.{view}
use Rattle.ert_scenario.specs.Quick.{scalar_of}
use Rattle.ert_scenario.proofs.QuickLemmas.{ItemsSoFar, items_more, items_done}
use Rattle.ert_scenario.proofs.quick.tokens.read_items.Goals as goal

pub items-preserved : goal.items-preserved
items-preserved c =
    let l = c.items in
    let going : (after_end_array l.reader ≡ None) × (c.take_end_array.new.self ≡ l.reader) = grind arith in
    let first : l.reader ≡ token_of c.in-Some.token ∷ c.next.new.self = grind (arith, going.1) in
    let is : scalar_of (token_of c.in-Some.token) ≡ Some (view c.in-Some-2.item) = rw c.in-Some-2.is at c.in_ok-item.ensures in
    subst (ItemsSoFar c.args.reader.now c.next.new.self) (sym c.in_ok-push.ensures.items)
    (items_more c.args.reader.now l.reader c.next.new.self (token_of c.in-Some.token) l.items.items c.in-Some-2.item l.invariant going.0 first is)

pub returns-clause-read : goal.returns-clause-read
returns-clause-read c =
    λ yes. items_done c.args.reader.now c.items.reader c.take_end_array.new.self c.items.items.items c.items.invariant (grind arith)
