-- The worked examples that pin the field: the products of 57 hex in FIPS 197 section 4.2, the inverse of 2, that 0 has none, and a quotient.
-- Assumes nothing.
use mathlib.Core.Path.{◌≡◌, refl}
use Rattle.gf256.specs.Byte.{◌⊕◌, product, cut, reduce, ◌⊗◌, inverse_below, inverse, squares_product, ◌⊘◌}
use Rattle.std.specs.Prelude.{Some, None}

pub examples : (0x57 ⊗ 0x83 ≡ 0xc1) × (0x57 ⊗ 0x13 ≡ 0xfe) × (0x57 ⊗ 2 ≡ 0xae) × (0x57 ⊗ 4 ≡ 0x47) × (0x57 ⊗ 8 ≡ 0x8e) × (0x57 ⊗ 0x10 ≡ 7) × (inverse 2 ≡ Some 0x8d) × (inverse 0 ≡ None) × (0xc1 ⊘ 0x83 ≡ 0x57)
unfolding ◌⊗◌ product reduce inverse inverse_below squares_product ◌⊘◌ ◌⊕◌ cut
examples = (refl, refl, refl, refl, refl, refl, refl, refl, refl)
