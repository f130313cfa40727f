-- The laws of byte arithmetic for whoever cites them: the record `field`, and each law by its own name.
-- Assumes nothing.
use Rattle.gf256.specs.Field.{Field}
pub use Rattle.gf256.proofs.Digits.{⊕_assoc, ⊕_left_comm, interchange}
pub use Rattle.gf256.proofs.Ring.{⊕_comm, zero-⊕, ⊕-zero, ⊕_self, ⊕-twice, ⊕-back, ⊕_equal, ⊕-byte, ⊗-byte, ⊗_assoc, ⊗_comm, ⊗_left_comm, ⊗-⊕, ⊕-⊗, ⊗-zero, zero-⊗, ⊗_one, one_⊗, ⊗_by_digit}
pub use Rattle.gf256.proofs.Inverses.{inverse-zero, no_inverse, ⊗-inverse, inverse_only, ⊗_cancel, no_zero_divisors}
pub use Rattle.gf256.proofs.Quotients.{⊘-⊗, ⊘_only}
pub use Rattle.gf256.proofs.Powers.{power-byte, power-add}

pub field : Field
field =
    record {
      ⊕_assoc = ⊕_assoc;
      ⊕_comm = ⊕_comm;
      ⊕-zero = ⊕-zero;
      ⊕_self = ⊕_self;
      ⊗_assoc = ⊗_assoc;
      ⊗_comm = ⊗_comm;
      ⊗-⊕ = ⊗-⊕;
      ⊗-zero = ⊗-zero;
      ⊗_one = ⊗_one;
      inverse-zero = inverse-zero;
      no_inverse = no_inverse;
      ⊗-inverse = ⊗-inverse;
      inverse_only = inverse_only;
      ⊘-⊗ = ⊘-⊗;
      ⊘_only = ⊘_only;
      no_zero_divisors = no_zero_divisors;
      ⊕-byte = ⊕-byte;
      ⊗-byte = ⊗-byte;
    }
