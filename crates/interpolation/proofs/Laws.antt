-- The laws of polynomials and of interpolation over bytes, for whoever cites them.
-- Assumes nothing.
pub use Rattle.interpolation.proofs.Polynomial.{eval-plus, eval-scale, eval-zeros, eval-append, eval_append_zeros, eval-linear, eval_table, eval-byte}
pub use Rattle.interpolation.proofs.Polynomial.{plus-at, plus-byte, plus-length, plus_length_longer, scale_at, scale-byte, scale-length}
pub use Rattle.interpolation.proofs.Polynomial.{linear-first, linear-next, linear-byte, linear-length, vanishing-byte, vanishing-length, vanishing-next, vanishing-zero}
pub use Rattle.interpolation.proofs.Above.{above-byte, above_same, plus-above}
pub use Rattle.interpolation.proofs.Divisors.{divisors}
pub use Rattle.interpolation.proofs.Through.{interpolation}
pub use Rattle.interpolation.proofs.Lagrange.{unit-values, basis-length, basis-byte, basis-rule, basis-at, basis_unique, basis_formula, sum_to-same, sum_to-zero, sum_to-linear, sum_to_one, interpolate_back}
pub use Rattle.interpolation.proofs.Weights.{weight-within, weight_beyond, weight_too_many, weight_not_distinct, table_at}
pub use Rattle.interpolation.proofs.Remainders.{opening_solved, opening_parties, opening_known}
pub use Rattle.interpolation.proofs.ValueWeights.{value_solved, chosen_party, chosen-known}
