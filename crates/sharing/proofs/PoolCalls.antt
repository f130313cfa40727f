-- The splits from a key pool in words: each test reflects the line of the table at its place, and what a call leaves follows from its answer. And the words
-- settle a call.
-- Assumes nothing.
use Rattle.std.specs.Prelude.{Err, Ok, Result}
use mathlib.Core.Path.{◌≡◌, refl, sym, ap, ◌∙◌}
use mathlib.Core.List.{List}
use Prim.Native.Nat.{ℕ}
use lib.ListN.{length}
use Rattle.scheme.specs.declared.refusal.Refusal.{Refusal}
use Rattle.scheme.proofs.Laws.{end, line, above, other, either, after-scheme, answered_by, told-accepted, told-refused, kept}
use Rattle.staircase.specs.Parameters.{Parameters, default_parameters}
use Rattle.scheme.specs.declared.forms.Form.{Form}
use Rattle.key_pool.specs.declared.KeyPool.{KeyPool}
use Rattle.key_pool.specs.Pool.{pool_refused, pool_refusal, pool_answer, pool_output, PoolSplitCall}
use Rattle.key_pool.proofs.Laws.{written, output_long, moves, stays}
use Rattle.sharing.specs.PoolCalls.{PoolLeft, EveryPoolSplit, PoolWordsSettle}
use Rattle.sharing.proofs.Calls.{one_answer}

module _ (form : Form) (p : Parameters) (message bytes : List ℕ) (pool : KeyPool) (before : List ℕ) where
  left_by : (a : Result ℕ Refusal) (after : List ℕ) (next : KeyPool) → PoolSplitCall form p message bytes pool before a after next → PoolLeft form p message bytes pool before a after next
  unfolding pool_answer pool_output
  left_by (Ok share) after next C =
      let none = (told-accepted (Ok share) _ _ C.answered refl).0 in (
        C.wrote ∙ written form p message bytes pool before none,
        ap length C.wrote ∙ output_long form p message bytes pool before,
        C.moved ∙ moves form p _ _ pool _ none,
      )
  left_by (Err q) after next C =
      let some = told-refused (Err q) _ _ C.answered refl in
      (C.wrote ∙ sym (kept _ some), C.moved ∙ stays form p _ _ pool _ some)

  -- with one answer, one output and one record
  one_left : (a : Result ℕ Refusal) (after after' : List ℕ) (next next' : KeyPool) → PoolLeft form p message bytes pool before a after next
      → PoolLeft form p message bytes pool before a after' next' → (after ≡ after') × (next ≡ next')
  one_left (Ok share) after after' next next' L L' = (L.0 ∙ sym L'.0, L.2 ∙ sym L'.2)
  one_left (Err q) after after' next next' L L' = (L.0 ∙ sym L'.0, L.1 ∙ sym L'.1)

pub pool_split_in_words : (form : Form) (p : Parameters) → EveryPoolSplit form p
unfolding pool_answer pool_refusal pool_refused
pool_split_in_words form p message bytes pool before a after next C =
    record {
      answered = answered_by (after-scheme p.n p.r p.z p.counts (line above (line (either other (either above above)) (line other end)))) _ a C.answered;
      left = left_by form p message bytes pool before a after next C;
    }

pub pool_words_settle : (form : Form) (p : Parameters) → PoolWordsSettle form p
pool_words_settle form p message bytes pool before a a' after after' next next' W W' =
    let same = one_answer a a' W.answered W'.answered in
    let left = one_left form p message bytes pool before a after after' next next' W.left (rw (← same) at W'.left) in
    (same, left.0, left.1)

-- ---- the forms without a scheme

pub default_pool_split_in_words : (form : Form) → EveryPoolSplit form default_parameters
default_pool_split_in_words form = pool_split_in_words form default_parameters
