-- Worked examples of archives, by computing: the bytes of one, what is read out of it, the order of the refusals by two faults at once, and the limits
-- on both sides.
-- Assumes nothing.
use mathlib.Core.Path.{◌≡◌, refl}
use mathlib.Core.List.{List, [], ◌∷◌, ◌++◌}
use Prim.Native.Nat.{ℕ, ◌^◌}
use lib.ListN.{replicate}
use Rattle.lists.specs.Table.{flat}
use Rattle.scheme.specs.Outcome.{accepted, refused, first_of, answer}
use Rattle.archive.specs.Format.{max_entries, max_number, two_bytes, pairs, archive_of}
use Rattle.archive.specs.Reading.{number_at, start_of, cut_short, pairs_kept, rules_broken, file_refusal, count_answer, entry_refusal, place_answer, entry_length_answer, entry_of, entry_start}
use Rattle.archive.specs.Writing.{total, cut, lengths_fit, would_break, write_refusal, write_answer, write_output}

-- document 02 b's numbers
pub limits : (max_entries ≡ 4096) × (max_number ≡ 65535)
limits = (refl, refl)

-- the entries 7 and 8 9
abbrev two : List (List ℕ)
two = (7 ∷ []) ∷ (8 ∷ 9 ∷ []) ∷ []

abbrev file : List ℕ
file = 2 ∷ 0 ∷ 10 ∷ 0 ∷ 1 ∷ 0 ∷ 11 ∷ 0 ∷ 2 ∷ 0 ∷ 7 ∷ 8 ∷ 9 ∷ []

pub bytes :
    (archive_of two ≡ file)
    × (archive_of [] ≡ 0 ∷ 0 ∷ [])
    -- the low byte comes first
    × (two_bytes 300 ≡ 44 ∷ 1 ∷ [])
    × (number_at (44 ∷ 1 ∷ []) 0 ≡ 300)
    × (cut (1 ∷ 2 ∷ []) (7 ∷ 8 ∷ 9 ∷ []) ≡ two)
unfolding flat two_bytes pairs archive_of number_at cut
bytes = (refl, refl, refl, refl, refl)

pub reading :
    (count_answer file ≡ accepted (2 ∷ []))
    × (place_answer file 1 ≡ accepted (11 ∷ 2 ∷ []))
    × (entry_length_answer file 1 ≡ accepted (2 ∷ []))
    × (entry_of file 0 ≡ 7 ∷ [])
    × (entry_of file 1 ≡ 8 ∷ 9 ∷ [])
    × (entry_start file 1 ≡ 11)
    × (entry_length_answer file 2 ≡ refused 14)
    × (entry_of file 2 ≡ [])
    × (entry_start file 2 ≡ 0)
    × (count_answer (0 ∷ 0 ∷ []) ≡ accepted (0 ∷ []))
    -- no count, half a count, a count of 65,535, half a pair
    × (file_refusal [] ≡ 12)
    × (file_refusal (0 ∷ []) ≡ 12)
    × (file_refusal (255 ∷ 255 ∷ []) ≡ 12)
    × (file_refusal (1 ∷ 0 ∷ 6 ∷ 0 ∷ 1 ∷ []) ≡ 12)
    -- a count of 4,096, whose pairs are all there and wrong, and one of 4,097
    × (file_refusal (0 ∷ 16 ∷ replicate 16384 0) ≡ 13)
    × (file_refusal (1 ∷ 16 ∷ replicate 16388 0) ≡ 12)
    -- a tail, and one after no entries; an end before the file's; a gap, an overlap, an entry of no byte
    × (file_refusal (file ++ (0 ∷ [])) ≡ 13)
    × (file_refusal (0 ∷ 0 ∷ 0 ∷ []) ≡ 13)
    × (file_refusal (1 ∷ 0 ∷ 6 ∷ 0 ∷ 2 ∷ 0 ∷ 7 ∷ []) ≡ 13)
    × (file_refusal (1 ∷ 0 ∷ 7 ∷ 0 ∷ 1 ∷ 0 ∷ 0 ∷ 7 ∷ []) ≡ 13)
    × (file_refusal (2 ∷ 0 ∷ 10 ∷ 0 ∷ 2 ∷ 0 ∷ 11 ∷ 0 ∷ 2 ∷ 0 ∷ 7 ∷ 8 ∷ 9 ∷ []) ≡ 13)
    × (file_refusal (1 ∷ 0 ∷ 6 ∷ 0 ∷ 0 ∷ 0 ∷ []) ≡ 13)
    -- 12 before 13: the first offset is wrong, and the second pair is cut short
    × (file_refusal (2 ∷ 0 ∷ 9 ∷ 0 ∷ 1 ∷ 0 ∷ 11 ∷ []) ≡ 12)
    -- 12 and 13 before 14
    × (entry_refusal (0 ∷ []) 1 ≡ 12)
    × (entry_refusal (0 ∷ 0 ∷ 0 ∷ []) 1 ≡ 13)
unfolding number_at start_of cut_short pairs_kept rules_broken first_of answer file_refusal count_answer entry_refusal place_answer entry_length_answer entry_of entry_start
reading = (refl, refl, refl, refl, refl, refl, refl, refl, refl, refl, refl, refl, refl, refl, refl, refl, refl, refl, refl, refl, refl, refl, refl, refl, refl)

pub writing :
    (write_answer 3 (1 ∷ 2 ∷ []) 13 ≡ accepted (13 ∷ []))
    × (write_output (7 ∷ 8 ∷ 9 ∷ []) (1 ∷ 2 ∷ []) (replicate 13 5) ≡ file)
    × (write_output (7 ∷ 8 ∷ 9 ∷ []) (1 ∷ 2 ∷ []) (5 ∷ []) ≡ 5 ∷ [])
    × (write_answer 0 [] 2 ≡ accepted (2 ∷ []))
    -- an output of another length, lengths that add up to less or more, an entry of no byte
    × (write_refusal 3 (1 ∷ 2 ∷ []) 12 ≡ 10)
    × (write_refusal 3 (1 ∷ 1 ∷ []) 13 ≡ 13)
    × (write_refusal 3 (1 ∷ 3 ∷ []) 13 ≡ 13)
    × (write_refusal 3 (3 ∷ 0 ∷ []) 13 ≡ 13)
    -- the longest entry, and one that is longer; the last offset, and one beyond it. The file may be longer than that
    × (write_answer 65535 (65535 ∷ []) 65541 ≡ accepted (65541 ∷ []))
    × (write_refusal 65536 (65536 ∷ []) 65542 ≡ 13)
    × (write_answer 65528 (65525 ∷ 3 ∷ []) 65538 ≡ accepted (65538 ∷ []))
    × (write_refusal 65529 (65526 ∷ 3 ∷ []) 65539 ≡ 13)
    -- sums that would be 0 if they wrapped
    × (write_refusal 0 (2 ^ 63 ∷ 2 ^ 63 ∷ []) 10 ≡ 13)
    × (write_refusal 0 (18446744073709551615 ∷ 1 ∷ []) 10 ≡ 13)
    -- as many entries as there may be, and one more
    × (write_answer 4096 (replicate 4096 1) 20482 ≡ accepted (20482 ∷ []))
    × (write_refusal 4097 (replicate 4097 1) 20487 ≡ 12)
    -- 12 before 13, 13 before 10
    × (write_refusal 3 (replicate 4097 0) 0 ≡ 12)
    × (write_refusal 3 (1 ∷ 1 ∷ []) 0 ≡ 13)
unfolding flat two_bytes pairs archive_of total cut lengths_fit would_break first_of answer write_refusal write_answer write_output
writing = (refl, refl, refl, refl, refl, refl, refl, refl, refl, refl, refl, refl, refl, refl, refl, refl, refl, refl)
