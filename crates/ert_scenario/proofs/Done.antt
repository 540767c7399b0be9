-- The ops of a list are those that may stand there.

use Rattle.std.proofs.Common.{◌≡◌, ℕ, List, [], ◌∷◌, All, Bool, true, false, Option, Some, None, Ok, Err, cond, bytes_eq, subst, ap, refl}
use Rattle.std.proofs.lemmas.List.Elements.{All-nil, All-cons, All-weaker}
use Rattle.ert_defs.specs.Mails.{first_of, others_of}
use Rattle.serde_json.specs.Data.{Data}
use Rattle.ert_ops.specs.{Races.IsCallersOp, declared.op.Op.Op, declared.op.Op.TheVariants.{Tick, Check, Finalize, Notify, Time, System, Offset, Info, Convert, Start, SendAfter, Cancel, CancelQuiet, Read, CancelAsync, ReadAsync, Receive}}
use Rattle.ert_ops.specs.{declared.op.Op.TheVariants.{Exit, Alive, Monitor, Demonitor}}
use Rattle.ert_scenario.specs.{Doers.{IsKeepersOp, IsCallersAlone, IsDoneBy}, Rows.{OpRow, keeper_rows, shared_rows, convert_row, clock_rows, process_rows, start_args, timer_rows, request_args, rows_of_one, rows_of_two, rows_of_format}}
use Rattle.ert_scenario.specs.{Rows.{caller_groups, groups_of, row_in, or_next, op_named, op_of}, Units.time_unit, Walks.{raws_of, ops_of}, declared.doer.ListDoer.ListDoer, declared.doer.ListDoer.TheVariants.{Everyone, Keeper, Caller}}
use Rattle.ert_scenario.specs.{declared.format.Format.Format, declared.format.Format.TheVariants.{One, Two}}
use Rattle.ert_scenario.specs.Kinds.{FoundOrFault, ◌>>=◌, ◌▹◌, integer, one_word, two_words, reading_from, listed, text, end}
use Rattle.ert_scenario.proofs.Founds.{follows}

-- ---- rows all of whose ops have the property

Reads : (Op → Type 0) → (List Data → FoundOrFault Op) → Type 0
Reads P row = (args : List Data) (op : Op) → row args ≡ Ok op → P op

abbrev AreRows : (Op → Type 0) → List OpRow → Type 0
AreRows P [] = Unit {0}
AreRows P (row ∷ rows) = Reads P row.1 × AreRows P rows

abbrev AreGroups : (Op → Type 0) → List (List OpRow) → Type 0
AreGroups P [] = Unit {0}
AreGroups P (rows ∷ groups) = AreRows P rows × AreGroups P groups

by_name : (P : Op → Type 0) (is : Bool) (first : FoundOrFault Op) (rest : Option (FoundOrFault Op)) (op : Op) → (first ≡ Ok op → P op) → (rest ≡ Some (Ok op) → P op)
    → cond is (Some first) rest ≡ Some (Ok op) → P op
by_name P true first rest op here later h = here (cc)
by_name P false first rest op here later h = later h

in_rows : (P : Op → Type 0) (name : List ℕ) (rows : List OpRow) (args : List Data) (op : Op) → AreRows P rows → row_in name rows args ≡ Some (Ok op) → P op
unfolding Reads
in_rows P name [] args op all h = absurd (cc)
in_rows P name (row ∷ rows) args op all h =
    by_name P (bytes_eq name row.0) (row.1 args) (row_in name rows args) op (all.0 args op) (in_rows P name rows args op all.1) h

by_group : (P : Op → Type 0) (first : Option (FoundOrFault Op)) (rest : FoundOrFault Op) (op : Op) → (first ≡ Some (Ok op) → P op) → (rest ≡ Ok op → P op) → or_next first rest ≡ Ok op → P op
by_group P None rest op here later h = later h
by_group P (Some found) rest op here later h = here (ap Some h)

in_groups : (P : Op → Type 0) (name : List ℕ) (groups : List (List OpRow)) (args : List Data) (op : Op) → AreGroups P groups → op_named name groups args ≡ Ok op → P op
in_groups P name [] args op all h = absurd (cc)
in_groups P name (rows ∷ groups) args op all h =
    by_group P (row_in name rows args) (op_named name groups args) op (in_rows P name rows args op all.0) (in_groups P name groups args op all.1) h

-- ---- each row

makes : {A : Type 0} (P : Op → Type 0) (make : A → Op) (found : FoundOrFault A) → ((a : A) → P (make a)) → (op : Op) → (found >>= (λ a. Ok (make a))) ≡ Ok op → P op
makes P make (Ok a) all op h = let same : make a ≡ op = cc in subst P same (all a)
makes P make (Err fault) all op h = absurd (cc)

keepers : AreRows IsKeepersOp keeper_rows
unfolding keeper_rows Reads
keepers = (
  λ args op h. makes IsKeepersOp (λ r. Tick r.mono r.sys) (reading_from args) (λ r. tt) op h,
  (
    λ args op h. makes IsKeepersOp (λ r. Check r.mono r.sys) (reading_from args) (λ r. tt) op h,
    (λ args op h. makes IsKeepersOp (λ r. Finalize r.mono r.sys) (reading_from args) (λ r. tt) op h, tt),
  ),
)

keepers_shared : AreRows IsKeepersOp shared_rows
unfolding shared_rows Reads
keepers_shared = (λ args op h. makes IsKeepersOp Notify (one_word args) (λ p. tt) op h, tt)

callers_shared : AreRows IsCallersAlone shared_rows
unfolding shared_rows Reads
callers_shared = (λ args op h. makes IsCallersAlone Notify (one_word args) (λ p. (tt, tt)) op h, tt)

reads_plain : (made : Op) → IsCallersAlone made → (args : List Data) (op : Op) → (end args >>= (λ _. Ok made)) ≡ Ok op → IsCallersAlone op
reads_plain made is args op h = makes IsCallersAlone (λ (u : Unit {0}). made) (end args) (λ u. is) op h

reads_convert : (args : List Data) (op : Op) → convert_row args ≡ Ok op → IsCallersAlone op
unfolding convert_row
reads_convert args op h = makes IsCallersAlone (λ p. Convert p.0 p.1.0 p.1.1.0) ((integer ▹ time_unit ▹ time_unit ▹ end) args) (λ p. (tt, tt)) op h

callers_clock : AreRows IsCallersAlone clock_rows
unfolding clock_rows Reads
callers_clock = (reads_plain Time (tt, tt), (reads_plain System (tt, tt), (reads_plain Offset (tt, tt), (reads_plain Info (tt, tt), (reads_convert, tt)))))

callers_process : AreRows IsCallersAlone process_rows
unfolding process_rows Reads
callers_process = (
  λ args op h. makes IsCallersAlone Receive (one_word args) (λ p. (tt, tt)) op h,
  (
    λ args op h. makes IsCallersAlone Exit (one_word args) (λ p. (tt, tt)) op h,
    (
      λ args op h. makes IsCallersAlone Alive (one_word args) (λ p. (tt, tt)) op h,
      (
        λ args op h. makes IsCallersAlone Monitor (one_word args) (λ p. (tt, tt)) op h,
        (λ args op h. makes IsCallersAlone (λ p. Demonitor p.0 p.1) (two_words args) (λ p. (tt, tt)) op h, tt),
      ),
    ),
  ),
)

callers_timer : AreRows IsCallersAlone timer_rows
unfolding timer_rows Reads
callers_timer = (
  λ args op h. makes IsCallersAlone (λ s. Start s.label s.wheel s.when s.dest s.msg) (start_args args) (λ s. (tt, tt)) op h,
  (
    λ args op h. makes IsCallersAlone Cancel (one_word args) (λ p. (tt, tt)) op h,
    (λ args op h. makes IsCallersAlone Read (one_word args) (λ p. (tt, tt)) op h, tt),
  ),
)

callers_of_format : (format : Format) → AreRows IsCallersAlone (rows_of_format format)
unfolding rows_of_one rows_of_two Reads
callers_of_format One = (
  λ args op h. makes IsCallersAlone (λ p. CancelAsync p.0 p.1 true) (two_words args) (λ p. (tt, tt)) op h,
  (λ args op h. makes IsCallersAlone (λ p. ReadAsync p.0 p.1 true) (two_words args) (λ p. (tt, tt)) op h, tt),
)
callers_of_format Two = (
  λ args op h. makes IsCallersAlone (λ p. CancelAsync p.0 p.1 p.2) (request_args args) (λ p. (tt, tt)) op h,
  (
    λ args op h. makes IsCallersAlone (λ p. ReadAsync p.0 p.1 p.2) (request_args args) (λ p. (tt, tt)) op h,
    (
      λ args op h. makes IsCallersAlone (λ s. SendAfter s.label s.wheel s.when s.dest s.msg) (start_args args) (λ s. (tt, tt)) op h,
      (λ args op h. makes IsCallersAlone CancelQuiet (one_word args) (λ p. (tt, tt)) op h, tt),
    ),
  ),
)

by_doer : (format : Format) (doer : ListDoer) (name : List ℕ) (args : List Data) (op : Op) → op_named name (groups_of doer format) args ≡ Ok op → IsDoneBy doer op
by_doer format Everyone name args op h = tt
by_doer format Keeper name args op h = in_groups IsKeepersOp name (groups_of Keeper format) args op (keepers, (keepers_shared, tt)) h
by_doer format Caller name args op h =
    in_groups IsCallersAlone name (caller_groups format) args op
    (callers_shared, (callers_clock, (callers_process, (callers_timer, (callers_of_format format, tt))))) h

-- ---- the ops of a list

op_done : (format : Format) (doer : ListDoer) (d : Data) (op : Op) → op_of format doer d ≡ Ok op → IsDoneBy doer op
unfolding op_of
op_done format doer d op h =
    let items = follows (listed (Some d)) _ op h in
    let name = follows (text (first_of items.read)) _ op items.then in
    by_doer format doer name.read (others_of items.read) op name.then

one_more : (doer : ListDoer) (found : FoundOrFault Op) (rest : List (FoundOrFault Op)) → ((op : Op) → found ≡ Ok op → IsDoneBy doer op) → All (IsDoneBy doer) (ops_of rest)
    → All (IsDoneBy doer) (ops_of (found ∷ rest))
one_more doer (Ok op) rest here others = All-cons (IsDoneBy doer) op (ops_of rest) (here op refl) others
one_more doer (Err fault) rest here others = others

pub all_done : (format : Format) (doer : ListDoer) (items : List Data) → All (IsDoneBy doer) (ops_of (raws_of format doer items))
all_done format doer [] = All-nil (IsDoneBy doer)
all_done format doer (d ∷ ds) = one_more doer (op_of format doer d) (raws_of format doer ds) (op_done format doer d) (all_done format doer ds)

keepers_call : (op : Op) → IsKeepersOp op → IsCallersOp op
keepers_call (Tick mono sys) h = tt
keepers_call (Check mono sys) h = tt
keepers_call (Finalize mono sys) h = tt
keepers_call (Notify process) h = tt
keepers_call _ h = absurd h

pub keepers_are_callers : (ops : List Op) → All IsKeepersOp ops → All IsCallersOp ops
keepers_are_callers ops h = All-weaker IsKeepersOp IsCallersOp keepers_call ops h

pub callers_are_callers : (ops : List Op) → All IsCallersAlone ops → All IsCallersOp ops
callers_are_callers ops h = All-weaker IsCallersAlone IsCallersOp (λ op is. is.0) ops h
