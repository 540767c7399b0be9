-- The formats of actors.

use Rattle.std.proofs.Common.{◌≡◌, ℕ, true, false, eqb, List, [], ◌∷◌, Option, Some, None, refl, sym, ap, ◌∙◌, subst, inl, inr}
use Rattle.std.specs.Prelude.{codes, option_map, IfSome}
use Rattle.std.specs.{Fmt.decimal, Str.bytes_eq}
use Rattle.std.proofs.lemmas.{Bool.eqb-true, Option.{same_Some, none-some}}
use Rattle.ert_defs.specs.declared.entry.Actor.{Actor, TheVariants.{Keeper, Wheel, Inbox, Sched, MailOf, Caller}}
use Rattle.ert_audit.specs.{Fits.{Fits32, FitsActor}, Parts.{Word, actor_word, with_word}, Readers.small_of, Reading.{keeper_of, lettered, actor_of, read_actor, with_of, read_with}}
use Rattle.ert_audit.proofs.{Formats.{is_ink, IsFormat, map_some}, Integers.{small-takes, small-again, small-ink}, Tables.{chosen, same_word, meant-format}}

-- what a word says of its actor
abbrev Names : Word → Actor → Type 0
Names word a = (word ≡ actor_word a) × FitsActor a

keeper-takes : (digits : List ℕ) (a : Actor) → keeper_of digits ≡ Some a → Names (107 ∷ digits) a
keeper-takes [] a e = subst (Names (107 ∷ [])) (same_Some Keeper a e) (refl, tt)
keeper-takes (digit ∷ digits) a e = absurd (none-some a e)

-- the actor of one letter
one-takes : (code : ℕ) (make : ℕ → Actor) → ((n : ℕ) → Fits32 n → Names (code ∷ decimal n) (make n))
    → (letter : ℕ) (digits : List ℕ) (a : Actor) → eqb letter code ≡ true → option_map make (small_of digits) ≡ Some a → Names (letter ∷ digits) a
one-takes code make is letter digits a same e =
    let p = map_some (small_of digits) make a e in
    let t = small-takes digits p.0 p.1 in
    let word : code ∷ decimal p.0 ≡ letter ∷ digits = sym (ap (λ (ds : List ℕ). letter ∷ ds) t.0 ∙ ap (λ (c : ℕ). c ∷ decimal p.0) (eqb-true letter code same)) in
    let there : Word → Type 0 = λ w. Names w a in
    subst there word (subst (Names (code ∷ decimal p.0)) p.2 (is p.0 t.1))

lettered-takes : (letter : ℕ) (digits : List ℕ) (a : Actor) → lettered letter (small_of digits) ≡ Some a → Names (letter ∷ digits) a
lettered-takes letter digits a e =
    elim (chosen (eqb letter 119) _ _ (Some a) e) [
      | inl w ↦ one-takes 119 Wheel (λ n fits. (refl, fits)) letter digits a w.0 w.1
      | inr x1 ↦ elim (chosen (eqb letter 105) _ _ (Some a) x1.1) [
        | inl i ↦ one-takes 105 Inbox (λ n fits. (refl, fits)) letter digits a i.0 i.1
        | inr x2 ↦ elim (chosen (eqb letter 115) _ _ (Some a) x2.1) [
          | inl s ↦ one-takes 115 Sched (λ n fits. (refl, fits)) letter digits a s.0 s.1
          | inr x3 ↦ elim (chosen (eqb letter 109) _ _ (Some a) x3.1) [
            | inl m ↦ one-takes 109 MailOf (λ n fits. (refl, fits)) letter digits a m.0 m.1
            | inr x4 ↦ elim (chosen (eqb letter 99) _ _ (Some a) x4.1) [
              | inl c ↦ one-takes 99 Caller (λ n fits. (refl, fits)) letter digits a c.0 c.1
              | inr x5 ↦ absurd (none-some a x5.1)
            ]
          ]
        ]
      ]
    ]

actor-takes : (word : Word) (a : Actor) → actor_of word ≡ Some a → Names word a
unfolding actor_of
actor-takes [] a e = absurd (none-some a e)
actor-takes (letter ∷ digits) a e =
    elim (chosen (eqb letter 107) (keeper_of digits) (lettered letter (small_of digits)) (Some a) e) [
      | inl k ↦
          let there : ℕ → Type 0 = λ c. Names (c ∷ digits) a in
          subst there (sym (eqb-true letter 107 k.0)) (keeper-takes digits a k.1)
      | inr other ↦ lettered-takes letter digits a other.1
    ]

actor-again : (a : Actor) → FitsActor a → actor_of (actor_word a) ≡ Some a
unfolding actor_of
actor-again Keeper fits = refl
actor-again (Wheel n) fits = ap (option_map Wheel) (small-again n fits)
actor-again (Inbox n) fits = ap (option_map Inbox) (small-again n fits)
actor-again (Sched n) fits = ap (option_map Sched) (small-again n fits)
actor-again (MailOf n) fits = ap (option_map MailOf) (small-again n fits)
actor-again (Caller n) fits = ap (option_map Caller) (small-again n fits)

actor-ink : (a : Actor) → FitsActor a → is_ink (actor_word a) ≡ true
actor-ink Keeper fits = refl
actor-ink (Wheel n) fits = small-ink n fits
actor-ink (Inbox n) fits = small-ink n fits
actor-ink (Sched n) fits = small-ink n fits
actor-ink (MailOf n) fits = small-ink n fits
actor-ink (Caller n) fits = small-ink n fits

pub actor : IsFormat (λ a. actor_word a ∷ []) FitsActor read_actor
unfolding read_actor
actor = meant-format actor_word FitsActor actor_of actor-takes actor-again actor-ink

with-takes : (word : Word) (o : Option Actor) → with_of word ≡ Some o → (word ≡ with_word o) × IfSome o FitsActor
unfolding with_of
with-takes word o e =
    elim (chosen (bytes_eq word (codes "-")) (Some None) (option_map Some (actor_of word)) (Some o) e) [
      | inl minus ↦
          let there : Option Actor → Type 0 = λ o. (word ≡ with_word o) × IfSome o FitsActor in
          subst there (same_Some None o minus.1) (same_word word (codes "-") minus.0, tt)
      | inr other ↦
          let p = map_some (actor_of word) Some o other.1 in
          let there : Option Actor → Type 0 = λ o. (word ≡ with_word o) × IfSome o FitsActor in
          subst there p.2 (actor-takes word p.0 p.1)
    ]

no_minus : (a : Actor) → bytes_eq (actor_word a) (codes "-") ≡ false
no_minus Keeper = refl
no_minus (Wheel n) = refl
no_minus (Inbox n) = refl
no_minus (Sched n) = refl
no_minus (MailOf n) = refl
no_minus (Caller n) = refl

with-again : (o : Option Actor) → IfSome o FitsActor → with_of (with_word o) ≡ Some o
unfolding with_of
with-again None fits = refl
with-again (Some a) fits = rw (no_minus a) (ap (option_map Some) (actor-again a fits))

with-ink : (o : Option Actor) → IfSome o FitsActor → is_ink (with_word o) ≡ true
with-ink None fits = refl
with-ink (Some a) fits = actor-ink a fits

pub with : IsFormat (λ o. with_word o ∷ []) (λ o. IfSome o FitsActor) read_with
unfolding read_with
with = meant-format with_word (λ o. IfSome o FitsActor) with_of with-takes with-again with-ink
