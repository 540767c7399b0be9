-- A draw is below its number, and the code's draws are those of the definition.

use Rattle.std.proofs.Common.{◌≡◌, ℕ, ◌+◌, ◌*◌, ◌/◌, ◌%◌, ◌^◌, ◌<◌, sym, ap, ◌∙◌, arith}
use Rattle.std.proofs.Math.Nat.{mod-add-div', add-mul-mod_self_right}
use Rattle.ert_program.specs.Draws.{after, drawn, draw}

mod_add : (a c w : ℕ) → (a % w + c) % w ≡ (a + c) % w
mod_add a c w =
    let whole : a + c ≡ (a % w + c) + a / w * w = omega (arith, mod-add-div' a w) in
    sym (ap (λ n. n % w) whole ∙ add-mul-mod_self_right (a % w + c) (a / w) w)

-- a product that wraps, and then a sum that wraps, are a draw's
pub after_wraps : (x : ℕ) → ((x * 6364136223846793005) % 2 ^ 64 + 1442695040888963407) % 2 ^ 64 ≡ after x
unfolding after
after_wraps x = mod_add (x * 6364136223846793005) 1442695040888963407 (2 ^ 64)

pub draw_low : (below x : ℕ) → 0 < below → draw below x < below
unfolding draw
draw_low below x h = omega arith

pub draw_is : (below x y : ℕ) → y ≡ after x → (y / 2 ^ 33) % below ≡ draw below x
unfolding draw drawn
draw_is below x y e = ap (λ n. (n / 2 ^ 33) % below) e
