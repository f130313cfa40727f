-- What the methods of `Lent` say: the words of `Agreeing` for what is lent, and what a rebuilding does with it.
-- Assumes nothing.
use Rattle.std.specs.Prelude.{◌≡◌, Bool, true, false, List, ℕ, ◌-◌, Result, Ok, Err}
use Rattle.lists.specs.Differing.{differing}
use Rattle.staircase.specs.Parameters.{parameters_of}
use Rattle.agreement.specs.Agreement.{rebuilt, agrees, named}
use Rattle.reader.specs.declared.lent.Lent.{Lent}
use Rattle.reader.specs.declared.prefixes.Prefixes.{Prefixes}
use Rattle.reader.specs.declared.rebuilding.RebuildRefusal.{RebuildRefusal}
use Rattle.reader.specs.declared.rebuilding.RebuildRefusal.TheVariants.{Disagreeing, Refused}
use Rattle.reader.specs.Prefixes.{read_of}
use Rattle.reader.specs.Agreeing.{first_in, weights_in, found_in, rebuilt_in, agrees_in, same_at}

-- the weights, the blocks, a party's share and the test of agreement, from what is left
abbrev pub weights_of : Lent → List (List ℕ)
weights_of l = weights_in l.scheme l.parties.now l.skip

abbrev pub found_by : Lent → List ℕ
found_by l = found_in l.scheme l.parties.now l.blocks l.skip l.shares.now

abbrev pub rebuilt_by : Lent → ℕ → List ℕ
rebuilt_by l party = rebuilt_in l.scheme l.parties.now l.blocks l.skip l.shares.now party

abbrev pub agrees_by : Lent → Bool
agrees_by l = agrees_in l.scheme l.parties.now l.blocks l.skip l.shares.now

-- the first n − r shares that are left, as the prefixes of so many parties
pub record FirstShares (l : Lent) (p : Prefixes) : Type 0 where
  pub scheme_is : p.scheme ≡ l.scheme
  pub d_is : p.d ≡ l.scheme.n - l.scheme.r
  pub blocks_are : p.blocks ≡ l.blocks
  pub read_are : read_of p ≡ first_in l.scheme l.blocks l.skip l.shares.now

-- is the share at place a left out, or what is rebuilt for its party?
abbrev pub same_by : Lent → ℕ → Bool
same_by l a = same_at l.scheme l.parties.now l.blocks l.skip l.shares.now a

-- where nothing is left out and no refusal but 18 may apply: they agree, and the answer is in how many bytes the held copy differs from the share that
-- is written; or they do not, the party named is answered, and nothing is written
abbrev pub RebuildsLent : Lent → ℕ → List ℕ → List ℕ → Result ℕ RebuildRefusal → List ℕ → Type 0
RebuildsLent l wanted held before (Ok different) after =
    (agrees (parameters_of l.scheme) l.parties.now l.blocks l.shares.now ≡ true)
    × (different ≡ differing held (rebuilt (parameters_of l.scheme) l.parties.now l.blocks l.shares.now wanted))
    × (after ≡ rebuilt (parameters_of l.scheme) l.parties.now l.blocks l.shares.now wanted)
RebuildsLent l wanted held before (Err (Disagreeing party)) after =
    (agrees (parameters_of l.scheme) l.parties.now l.blocks l.shares.now ≡ false)
    × (party ≡ named (parameters_of l.scheme) l.parties.now l.blocks l.shares.now) × (after ≡ before)
RebuildsLent l wanted held before (Err (Refused q)) after = ⊥
