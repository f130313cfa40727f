use Rattle.std.proofs.Common.{ℕ, ◌+◌, ◌/◌, ap, sym, ◌∙◌, refl}
use native.Mathlib.Nat.{div-zero}
use Rattle.scheme.specs.Limits.{max_message}
use Rattle.scheme.specs.Padding.{padded_count}
use Rattle.scheme.proofs.padding.most_blocks.Goals as goal

pub returns-then-block-eq0 : goal.returns-then-block-eq0
unfolding padded_count
returns-then-block-eq0 c = sym (ap (λ (x : ℕ). max_message / x + 1) c.if-block-eq0.true ∙ ap (λ (x : ℕ). x + 1) (div-zero max_message))

pub returns : goal.returns
unfolding padded_count
returns c = refl
