-- What a pass knows, and how that is divided and put together.

use Rattle.std.specs.Prelude.{ℕ, ◌+◌, max, [], ◌∷◌, ◌++◌}
use Rattle.ert_unique.specs.declared.view.View.{View}

-- what the first pass knows, which has the shares of all that are opened
abbrev pub first_share : ℕ → View
first_share passes = record { draws = []; seen = 0; share = passes; passes = passes }

-- what a pass knows that drew a number
abbrev pub drew : View → ℕ → View
drew v n = record { draws = v.draws ++ n ∷ []; seen = n; share = v.share; passes = v.passes }

-- what a pass knows whose share is now this one
abbrev pub keeping : View → ℕ → View
keeping v share = record { draws = v.draws; seen = v.seen; share = share; passes = v.passes }

-- what is made of a pass by a division: it has seen as much, has drawn nothing, and has this share
abbrev pub part_of : View → ℕ → View
part_of v share = record { draws = []; seen = v.seen; share = share; passes = v.passes }

-- what a pass knows that took in another
abbrev pub taking_in : View → View → View
taking_in v w = record { draws = v.draws ++ w.draws; seen = max v.seen w.seen; share = v.share + w.share; passes = v.passes }

-- what is left of a pass that was taken in
abbrev pub emptied : View
emptied = record { draws = []; seen = 0; share = 0; passes = 0 }
