-- What a turn with a bound has left, and that it did as much as it may.

use Rattle.std.proofs.Common.{◌≡◌, ℕ, ◌<◌, Bool, true, false, List, length, Ok, inl, inr, refl, sym, ap, subst, ◌∙◌}
use Rattle.ert_defs.specs.{declared.entry.Entry.Entry, declared.settings.Settings.Settings, States.sched_of}
use Rattle.ert_effects.specs.{SomeCalls.is_more, Ways.{Grows, Way}, declared.answers.Left.Left, declared.answers.Left.TheVariants.{Nothing, Due, Moving}, declared.answers.Turned.Turned}
use Rattle.ert_timers.specs.{Parts.Part, Trying.IsLeft}
use Rattle.ert_wheel.specs.{FirstDue.HasMore, Rows.key_in}
use Rattle.ert_world.proofs.SomeAdvanced.{fewer_through}
use Rattle.ert_world.specs.{Bounded.{AreLeft, DeliversSome, HasDoneMost, IsLeftAt, IsMoreAt, LosesSomeAt}, Ways.beside_seats, Worlds.{Seen, KeepsRows, KeepRows, LoseRows, way_of, world_sched}}

-- how a world makes its steps
abbrev pub the_way : Settings → ℕ → ℕ → Way
the_way g next sched = beside_seats g next

-- what is left of a wheel is so where its rows stay
pub left_kept : (p q : Part) (to : ℕ) (left : Left) → KeepsRows p q → IsLeft p to left → IsLeft q to left
left_kept p q to Nothing kept passed = record {
  left = λ k key is. passed.left k key (ap (λ keys. key_in keys k) (sym kept.keys) ∙ is);
  on = subst (λ n. to < n) (sym kept.time) passed.on;
}
left_kept p q to Due kept due = record {
  slot = due.slot;
  key = due.key;
  has = ap (λ keys. key_in keys due.slot) kept.keys ∙ due.has;
  due = due.due;
}
left_kept p q to Moving kept behind =
    subst (λ keys. HasMore keys q.stands q.passed to) (sym kept.keys)
    (subst (λ stands. HasMore p.keys stands q.passed to) (sym kept.stands) (subst (λ n. HasMore p.keys p.stands n to) (sym kept.time) behind))

pub left_at : (a b : Seen) (i to : ℕ) (left : Left) → KeepRows a b → IsLeftAt a i to left → IsLeftAt b i to left
left_at a b i to left kept told d = left_kept _ _ to left (kept i d) (told d)

-- rows stay through steps through each of which they do
pub keeps_same : (a b : Seen) → b.wheels ≡ a.wheels → KeepRows a b
keeps_same a b same i d = subst (λ wheels. KeepRows a (record b { wheels = wheels })) (sym same) (λ j x. record { keys = refl; time = refl; stands = refl }) i d

pub keep_then : (a b c : Seen) → KeepRows a b → KeepRows b c → KeepRows a c
keep_then a b c one other i d = record { keys = (other i d).keys ∙ (one i d).keys; time = (other i d).time ∙ (one i d).time; stands = (other i d).stands ∙ (one i d).stands }

-- the advance has left something
pub more_left : (w : Seen) (i to : ℕ) (left : Left) → is_more left ≡ true → IsLeftAt w i to left → IsMoreAt w i to true
more_left w i to Nothing more told = absurd cc
more_left w i to Due more told = inl (inl told)
more_left w i to Moving more told = inl (inr told)

-- or it has not, and expired timers wait or not
pub waits_left : (w : Seen) (i to most count : ℕ) (left : Left) (waits : Bool) → is_more left ≡ false → IsLeftAt w i to left
    → AreLeft waits most count (world_sched w i).expired → IsMoreAt w i to waits
waits_left w i to most count Nothing true none told rest = inr rest.1
waits_left w i to most count Nothing false none told rest = (told, rest)
waits_left w i to most count Due waits none told rest = absurd cc
waits_left w i to most count Moving waits none told rest = absurd cc

-- what a delivery tells of the expired timers
pub delivered_rest : (b c : Seen) (i most : ℕ) (answer : ℕ × ℕ × Bool)
    → (made : Grows (DeliversSome b.settings (way_of b) i most (Ok answer)) b.history c.history) → c.settings ≡ b.settings
    → AreLeft answer.2 most (length made.made.hows) (world_sched c i).expired
delivered_rest b c i most answer made settings =
    subst (λ (g : Settings). AreLeft answer.2 most (length made.made.hows) (sched_of g c.history i).expired) (sym settings)
    (subst (λ (h : List Entry). AreLeft answer.2 most (length made.made.hows) (sched_of b.settings h i).expired) (sym made.grown) made.made.rest)

-- where the advance has left something, so many rows went, or rows have to move
pub done_most : (a b c d : Seen) (i most : ℕ) (t : Turned) (left : Left) → is_more left ≡ true → LoseRows a b → LosesSomeAt b c i left most
    → LoseRows c d → IsLeftAt d i t.to left → HasDoneMost a d i most t
done_most a b c d i most t Nothing more before loses after told = absurd cc
done_most a b c d i most t Due more before loses after told = inr (inl (fewer_through a b c d i most before loses after))
done_most a b c d i most t Moving more before loses after told = inr (inr told)
