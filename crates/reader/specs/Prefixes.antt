-- What the loops do that go through all rows of the prefixes, said of the prefixes as the code has them.
-- Assumes nothing.
use Rattle.std.specs.Prelude.{List, ℕ}
use Rattle.reader.specs.declared.decoding.Sizes.{Sizes}
use Rattle.reader.specs.declared.prefixes.Prefixes.{Prefixes}
use Rattle.reader.specs.Decoding as decoding
use Rattle.reader.specs.Filling.{FillsShare}

-- their sizes
abbrev pub sizes_of : Prefixes → Sizes
sizes_of p = decoding.sizes_of p.scheme p.d p.skip p.blocks

-- those that are read
abbrev pub read_of : Prefixes → List ℕ
read_of p = decoding.read_from p.scheme p.d p.blocks p.skip p.bytes.now

-- said of every B that has them at points with these weights
abbrev pub EachOf : Prefixes → List (List ℕ) → (List ℕ → Type 0) → Type 0
EachOf p weights Says = decoding.EachSent p.scheme p.scheme.counts.now p.d p.blocks weights (read_of p) Says

-- the buffer has the bytes of every such B at all origins of the rows of the first turns, `many` of them
abbrev pub Finds : Prefixes → List (List ℕ) → ℕ → List ℕ → Type 0
Finds p weights many w = EachOf p weights (λ B. decoding.Found p.scheme p.scheme.counts.now p.d p.blocks many B w)

-- the output is the share at a point, by the weights of that point, where the buffer has the blocks
abbrev pub Fills : Prefixes → List ℕ → List ℕ → List ℕ → Type 0
Fills p chosen work out = FillsShare p.scheme p.scheme.counts.now p.d p.blocks chosen (read_of p) work out
