-- Keys and values by slot, as they are stored: each value has a key in it.

use Rattle.std.proofs.Common.{◌≡◌, ◌∙◌, sym, ap, subst, IfSome, ℕ, zero, suc, ◌-◌, ◌<◌, ◌≤◌, List, ◌∷◌, ◌++◌, Some, map, length, get_or, set, replicate, slice_get, refl, if◌then◌else◌, true, Bool, take, take_all}
use Rattle.std.proofs.lemmas.{Option.{slice_get_read, slice_get-get_or}, List.{get_or-map, map-append, map-set, length-map, set-get_or}}
use Rattle.ert_wheel.specs.{Kept.KeptSlots, Wheels.no_key, declared.row.Key.Key}

-- what is kept, as it is stored
abbrev pub kept_as : {T : Type 0} → (T → Key) → List T → ℕ → KeptSlots T
kept_as key vs cap = record { keys = map key vs; values = vs; room = cap }

-- there are as many keys as values
pub kept_len : {T : Type 0} (key : T → Key) (vs : List T) (cap : ℕ) (k : KeptSlots T) → kept_as key vs cap ≡ k → length k.keys ≡ length vs
kept_len {T} key vs cap k is = ap (λ (k : KeptSlots T). length k.keys) (sym is) ∙ length-map vs key

pub kept_len_values : {T : Type 0} (key : T → Key) (vs : List T) (cap : ℕ) (k : KeptSlots T) → kept_as key vs cap ≡ k → length k.values ≡ length vs
kept_len_values {T} key vs cap k is = ap (λ (k : KeptSlots T). length k.values) (sym is)

-- a key that is read is that of the slot, and so is a value
pub key_read : {T : Type 0} (key : T → Key) (vs : List T) (cap : ℕ) (k : KeptSlots T) (i : ℕ) (v : T) → kept_as key vs cap ≡ k
    → i < length vs → v ≡ get_or vs i v → key v ≡ get_or k.keys i no_key
key_read {T} key vs cap k i v is low at =
    ap key at ∙ sym (get_or-map key vs i v no_key low) ∙ ap (λ (k : KeptSlots T). get_or k.keys i no_key) is

pub value_read : {T : Type 0} (key : T → Key) (vs : List T) (cap : ℕ) (k : KeptSlots T) (i : ℕ) (v : T) → kept_as key vs cap ≡ k
    → i < length vs → v ≡ get_or vs i v → slice_get k.values i ≡ Some v
value_read {T} key vs cap k i v is low at =
    ap (λ (k : KeptSlots T). slice_get k.values i) (sym is) ∙ slice_get_read vs (length vs) i v refl low at

-- a slot gets another value
pub kept_set_key : {T : Type 0} (key : T → Key) (vs : List T) (cap : ℕ) (k : KeptSlots T) (i : ℕ) (v : T) → kept_as key vs cap ≡ k
    → map key (set vs i v) ≡ set k.keys i (key v)
kept_set_key {T} key vs cap k i v is = map-set key vs i v ∙ ap (λ (k : KeptSlots T). set k.keys i (key v)) is

pub kept_set_value : {T : Type 0} (key : T → Key) (vs : List T) (cap : ℕ) (k : KeptSlots T) (i : ℕ) (v : T) → kept_as key vs cap ≡ k
    → set vs i v ≡ set k.values i v
kept_set_value {T} key vs cap k i v is = ap (λ (k : KeptSlots T). set k.values i v) is

-- the keys stay where the value has the same
pub kept_same_keys : {T : Type 0} (key : T → Key) (vs : List T) (cap : ℕ) (k : KeptSlots T) (i : ℕ) (v : T) → kept_as key vs cap ≡ k
    → i < length vs → IfSome (slice_get k.values i) (λ old. key v ≡ key old) → set k.keys i (key v) ≡ k.keys
kept_same_keys {T} key vs cap k i v is low same =
    let at : slice_get k.values i ≡ Some (get_or vs i v) = ap (λ (k : KeptSlots T). slice_get k.values i) (sym is) ∙ slice_get-get_or vs i v low in
    let equal : key v ≡ key (get_or vs i v) = subst (λ o. IfSome o (λ old. key v ≡ key old)) at same in
    let read : get_or (map key vs) i no_key ≡ get_or k.keys i no_key = ap (λ (k : KeptSlots T). get_or k.keys i no_key) is in
    ap (λ x. set k.keys i x) (equal ∙ (sym (get_or-map key vs i v no_key low) ∙ read)) ∙ set-get_or k.keys i no_key

-- a list that was filled up
pub filled : {T : Type 0} (vs vs' : List T) (i n : ℕ) (u : T) (ok : Bool) → ok ≡ true → n ≡ length vs → length vs ≤ i
    → vs' ≡ (if ok then take i vs ++ replicate (i - n) u else vs) → vs' ≡ vs ++ replicate (i - length vs) u
filled vs vs' i n u ok is len high items =
    items ∙ (ap (λ b. if b then take i vs ++ replicate (i - n) u else vs) is
    ∙ (ap (λ xs. xs ++ replicate (i - n) u) (take_all i vs high) ∙ ap (λ m. vs ++ replicate (i - m) u) len))

map-replicate : {A B : Type 0} (f : A → B) (n : ℕ) (x : A) → map f (replicate n x) ≡ replicate n (f x)
map-replicate f zero x = refl
map-replicate f (suc n) x = ap (λ (ys : List _). f x ∷ ys) (map-replicate f n x)

-- what is kept of each slot that was added
pub kept_more_keys : {T : Type 0} (key : T → Key) (vs vs' : List T) (cap : ℕ) (k : KeptSlots T) (i : ℕ) (u : T) → kept_as key vs cap ≡ k
    → vs' ≡ vs ++ replicate (i - length vs) u → map key vs' ≡ k.keys ++ replicate (i - length k.keys) (key u)
kept_more_keys {T} key vs vs' cap k i u is items =
    ap (map key) items ∙ map-append key vs (replicate (i - length vs) u) ∙ ap (λ ys. map key vs ++ ys) (map-replicate key (i - length vs) u)
    ∙ ap (λ n. map key vs ++ replicate (i - n) (key u)) (sym (length-map vs key))
    ∙ ap (λ (k : KeptSlots T). k.keys ++ replicate (i - length k.keys) (key u)) is

pub kept_more_values : {T : Type 0} (key : T → Key) (vs vs' : List T) (cap : ℕ) (k : KeptSlots T) (i : ℕ) (u : T) → kept_as key vs cap ≡ k
    → vs' ≡ vs ++ replicate (i - length vs) u → vs' ≡ k.values ++ replicate (i - length k.keys) u
kept_more_values {T} key vs vs' cap k i u is items =
    items ∙ ap (λ n. vs ++ replicate (i - n) u) (sym (length-map vs key))
    ∙ ap (λ (k : KeptSlots T). k.values ++ replicate (i - length k.keys) u) is
