-- Names of processes.

use Rattle.std.specs.Prelude.{◌≡◌, ◌≢◌, ℕ, cond, nat_eq, List, map, Option, Some, None, String, string_bytes}
use Rattle.std.specs.{Cmp.Lexicographic.slice_cmp, Ordering.nat_cmp, declared.alloc.Global.Global}
use Rattle.std.specs.FinMap as finite

-- the process of each registered name, by the name's bytes
abbrev pub Names : Type 0
Names = finite.FinMap (slice_cmp nat_cmp) ℕ

-- the name of each process that has one
abbrev pub Named : Type 0
Named = finite.FinMap nat_cmp (List ℕ)

-- the same pairs, each way round
pub record AreInverse (names : Names) (named : Named) : Type 0 where
  pub there : (name : List ℕ) (process : ℕ) → finite.get names name ≡ Some process → finite.get named process ≡ Some name
  pub back : (name : List ℕ) (process : ℕ) → finite.get named process ≡ Some name → finite.get names name ≡ Some process

-- no name is that of the process
abbrev pub Unnamed : Names → ℕ → Type 0
Unnamed names process = (name : List ℕ) → finite.get names name ≢ Some process

-- a process, where there is one, but not this
abbrev pub other_than : ℕ → Option ℕ → Option ℕ
other_than process None = None
other_than process (Some q) = cond (nat_eq q process) None (Some q)

-- the names but that of a process
abbrev pub IsWithout : Names → ℕ → Names → Type 0
IsWithout old process new = (name : List ℕ) → finite.get new name ≡ other_than process (finite.get old name)

-- the process of each name, by what a map of names has
abbrev pub processes_of : List (String Global × ℕ) → Names
processes_of es = finite.from_entries (map (λ e. (string_bytes e.0, e.1)) es)

-- the name of each process, by what a map of processes has
abbrev pub names_of : List (ℕ × String Global) → Named
names_of es = finite.from_entries (map (λ e. (e.0, string_bytes e.1)) es)
