-- The rows taken for a range are the fewest in which all of its bytes stand; and what a search from the last turn down finds is their number.
-- Below degree d every byte of a block stands once in the P rows, and a coefficient of degree d or more stands again in an earlier turn: so the first
-- turn of a byte is the one in which it stands below degree d.
-- Assumes nothing.
use mathlib.Core.Path.{◌≡◌, refl, sym, ap, ◌∙◌}
use mathlib.Core.Bool.{Bool, true, true≢false}
use mathlib.Core.List.{List}
use mathlib.Core.Logic.{⊎_elim}
use Prim.Native.Nat.{ℕ, suc, ◌+◌, ◌-◌, ◌%◌, ◌≤◌, ◌<◌, zero-le}
use native.Mathlib.Nat.{le_refl, le_antisymm, zero-add, eq-or-lt_of_le, mod-lt, mod-le, mod-add-mod, add-mod-mod, add-mod_right, mod-eq_of_lt}
use native.Mathlib.Omega.{arith}
use lib.ListN.{length, get_or}
use Rattle.lists.specs.Each.{occurs, all_in}
use Rattle.lists.specs.Table.{tabulate}
use Rattle.lists.proofs.Each.{occurs-place}
use Rattle.lists.proofs.FirstFrom.{first_found}
use Rattle.lists.proofs.Members.{occurs-at, in-joined, joined_in, all_in_lem, in_all}
use Rattle.lists.proofs.Table.{length-tabulate, get_or-tabulate}
use Rattle.lists.proofs.Tests.{lt_or_le}
use Rattle.scheme.specs.Check.{rows_of_count}
use Rattle.staircase.specs.Coefficients.{count_of, origin}
use Rattle.order.specs.ReadingOrder.{row_in_turn}
use Rattle.order.specs.RowsTaken.{wanted_places, places_of, places_by, rows_taken, Wanted, Reached, Earliest}
use Rattle.order.proofs.ReadingOrder.{CountIn, order_of, P_some, turn_of, turn_below, in-turn, row_in_turn_below, turn_of_row, later_sooner}

-- ---- the tests in words

module _ (m z : ℕ) (ds : List ℕ) (d start long : ℕ) where
  abbrev test : ℕ → Bool
  test t = all_in (wanted_places m start long) (places_by m z ds d t)

  wanted_at : (k : ℕ) → k < long → get_or (wanted_places m start long) k 0 ≡ (start + k) % m
  unfolding wanted_places
  wanted_at k h = get_or-tabulate {A = ℕ} long (λ x. (start + x) % m) k 0 h

  wanted_long : length (wanted_places m start long) ≡ long
  unfolding wanted_places
  wanted_long = length-tabulate {A = ℕ} long (λ x. (start + x) % m)

  -- the places of a row
  row_stands : (j p : ℕ) → occurs p (places_of m z ds j) ≡ true → (e : ℕ) × (z ≤ e) × (e < count_of m z ds j) × (origin m z ds j e ≡ p)
  unfolding places_of
  row_stands j p h =
      let f : ℕ → ℕ = λ k. origin m z ds j (z + k) in
      let n : ℕ = count_of m z ds j - z in
      let o = occurs-place p (tabulate n f) h in
      let inside : o.0 < n = rw (length-tabulate {A = ℕ} n f) at o.1 in
      (z + o.0, omega arith, omega arith, sym (get_or-tabulate {A = ℕ} n f o.0 0 inside) ∙ o.2)

  stands_row : (j p e : ℕ) → z ≤ e → e < count_of m z ds j → origin m z ds j e ≡ p → occurs p (places_of m z ds j) ≡ true
  unfolding places_of
  stands_row j p e low high is =
      let f : ℕ → ℕ = λ k. origin m z ds j (z + k) in
      let n : ℕ = count_of m z ds j - z in
      let inside : e - z < n = omega arith in
      let back : z + (e - z) ≡ e = omega arith in
      occurs-at p (tabulate n f) (e - z) (rw (length-tabulate {A = ℕ} n f) inside)
      (get_or-tabulate {A = ℕ} n f (e - z) 0 inside ∙ rw back is)

  reached_of : (t : ℕ) → test t ≡ true → Reached m z ds d start long t
  unfolding places_by
  reached_of t e p W =
      let o : occurs p (places_by m z ds d t) ≡ true
      = rw (wanted_at W.offset W.inside, W.is) at
      (all_in_lem (wanted_places m start long) (places_by m z ds d t) e W.offset (rw wanted_long W.inside)) in
      let r = joined_in p (λ u. places_of m z ds (row_in_turn m z ds d u)) t o in
      let s = row_stands (row_in_turn m z ds d r.0) p r.2 in
      record { turn = r.0; degree = s.0; early = r.1; low = s.1; high = s.2; is = s.3 }

  of_reached : (t : ℕ) → Reached m z ds d start long t → test t ≡ true
  unfolding places_by
  of_reached t R =
      in_all (wanted_places m start long) (places_by m z ds d t)
      (λ k h.
      let l : k < long = rw wanted_long at h in
      let S = R ((start + k) % m) (record { offset = k; inside = l; is = refl }) in
      rw (wanted_at k l)
      (in-joined ((start + k) % m) (λ u. places_of m z ds (row_in_turn m z ds d u)) t S.turn S.early
      (stands_row (row_in_turn m z ds d S.turn) ((start + k) % m) S.degree S.low S.high S.is)))

  -- where all P rows reach the range, the definition has the fewest that do
  fewest : Reached m z ds d start long (rows_of_count m z d) → Earliest m z ds d start long (rows_taken m z ds d start long)
  unfolding rows_taken
  fewest all =
      let F = first_found test (rows_of_count m z d) 0 in
      let high : rows_taken m z ds d start long ≤ rows_of_count m z d = rw (zero-add (rows_of_count m z d)) at F.high in
      record {
        within = high;
        enough =
            ⊎_elim
            (λ (same : rows_taken m z ds d start long ≡ rows_of_count m z d). rw same all)
            (λ (less : rows_taken m z ds d start long < rows_of_count m z d). reached_of _ (F.here (rw (zero-add (rows_of_count m z d)) less)))
            (eq-or-lt_of_le high);
        least = λ t R.
            ⊎_elim (λ (h : t < rows_taken m z ds d start long). absurd (true≢false (sym (of_reached t R) ∙ F.before t zero-le h)))
            (λ (h : rows_taken m z ds d start long ≤ t). h)
            (lt_or_le t (rows_taken m z ds d start long));
      }

  earliest_one : (t t' : ℕ) → Earliest m z ds d start long t → Earliest m z ds d start long t' → t ≡ t'
  earliest_one t t' E F = le_antisymm (E.least t' F.enough) (F.least t E.enough)

-- ---- wanted places, by how far they are from the place of the range's start

module _ (m start long p : ℕ) (below : p < m) where
  pub wanted_near : (p + (m - start % m)) % m < long → Wanted m start long p
  wanted_near h =
      let pos : 0 < m = omega arith in
      let low : start % m < m = mod-lt start pos in
      let sum : start % m + (p + (m - start % m)) ≡ p + m = omega arith in
      record {
        offset = _;
        inside = h;
        is =
            add-mod-mod start (p + (m - start % m)) m
            ∙ sym (mod-add-mod start m (p + (m - start % m)))
            ∙ ap (λ (x : ℕ). x % m) sum
            ∙ add-mod_right p m
            ∙ mod-eq_of_lt below;
      }

  pub near_wanted : Wanted m start long p → (p + (m - start % m)) % m < long
  near_wanted W =
      let pos : 0 < m = omega arith in
      let low : start % m < m = mod-lt start pos in
      let k : ℕ = W.offset in
      let sum : start % m + (k + (m - start % m)) ≡ k + m = omega arith in
      let turn : start + k + (m - start % m) ≡ start + (k + (m - start % m)) = omega arith in
      let is : (p + (m - start % m)) % m ≡ k % m
      = ap (λ (x : ℕ). (x + (m - start % m)) % m) (sym W.is)
      ∙ mod-add-mod (start + k) m (m - start % m)
      ∙ ap (λ (x : ℕ). x % m) turn
      ∙ sym (mod-add-mod start m (k + (m - start % m)))
      ∙ ap (λ (x : ℕ). x % m) sum
      ∙ add-mod_right k m in
      omega (arith, mod-le k m, W.inside)

  -- all places are, of a range as long as a block
  pub wanted_all : m ≤ long → Wanted m start long p
  wanted_all h = wanted_near (let near = mod-lt (p + (m - start % m)) (let pos : 0 < m = omega arith in pos) in omega arith)

-- ---- the search from the last turn down

-- in no turn from t on does a wanted byte stand below degree d
abbrev pub NoneLater : ℕ → ℕ → List ℕ → ℕ → ℕ → ℕ → ℕ → Type 0
NoneLater m z ds d start long t =
    (u e : ℕ) → t ≤ u → u < rows_of_count m z d → z ≤ e → e < d → Wanted m start long (origin m z ds (row_in_turn m z ds d u) e) → ⊥

module _ {m b z : ℕ} {ds : List ℕ} {d : ℕ} (C : CountIn m b z ds d) (start long : ℕ) where
  abbrev P : ℕ
  P = rows_of_count m z d

  abbrev row : ℕ → ℕ
  row = row_in_turn m z ds d

  abbrev None : ℕ → Type 0
  None = NoneLater m z ds d start long

  wanted_below : (p : ℕ) → Wanted m start long p → p < m
  wanted_below p W = rw (← W.is) (mod-lt (start + W.offset) C.facts.least.positive)

  pub none_left : None P
  none_left u e l h = absurd (omega arith)

  pub none_more : (t : ℕ) → None (suc t) → ((e : ℕ) → z ≤ e → e < d → Wanted m start long (origin m z ds (row t) e) → ⊥) → None t
  none_more t N here u e l h low high =
      ⊎_elim (λ (s : t < u). N u e s h low high)
      (λ (s : u ≤ t).
      let same : u ≡ t = omega arith in
      rw same (here e low high))
      (lt_or_le t u)

  reached : (t : ℕ) → None t → Reached m z ds d start long t
  reached t N p W =
      let S = (order_of C).onto p (wanted_below p W) in
      let u : ℕ = turn_of m z ds P S.row in
      let is : row u ≡ S.row = in-turn C S.row S.within in
      record {
        turn = u;
        degree = S.degree;
        early =
            ⊎_elim (λ (h : u < t). h)
            (λ (h : t ≤ u). absurd (N u S.degree h (turn_below C S.row S.within) S.low S.high (rw (is, S.is) W)))
            (lt_or_le u t);
        low = S.low;
        high = rw is (omega (arith, S.high, (order_of C).wide S.row S.within));
        is = rw is S.is;
      }

  pub reached_all : Reached m z ds d start long P
  reached_all = reached P none_left

  -- the number of rows taken is the least that suffices
  pub taken_earliest : Earliest m z ds d start long (rows_taken m z ds d start long)
  taken_earliest = fewest m z ds d start long reached_all

  -- and no other number is
  pub taken_is : (t : ℕ) → Earliest m z ds d start long t → t ≡ rows_taken m z ds d start long
  taken_is t E = earliest_one m z ds d start long t _ E taken_earliest

  -- the first turn of a byte is that in which it stands below degree d
  only_turn : (u v e f : ℕ) → u < P → v < P → z ≤ e → e < d → z ≤ f → f < d → origin m z ds (row v) f ≡ origin m z ds (row u) e → v ≡ u
  only_turn u v e f hu hv low high low' high' same =
      let j = (order_of C).once (row v) f (row u) e (row_in_turn_below C v hv) low' high' (row_in_turn_below C u hu) low high same in
      sym (turn_of_row C v hv) ∙ ap (turn_of m z ds P) j.0 ∙ turn_of_row C u hu

  not-before : (u v e f : ℕ) → u < P → v < u → z ≤ e → e < d → z ≤ f → f < count_of m z ds (row v) → origin m z ds (row v) f ≡ origin m z ds (row u) e → ⊥
  not-before u v e f hu hv low high low' high' same =
      let hvP : v < P = omega arith in
      ⊎_elim (λ (h : f < d). let one : v ≡ u = only_turn u v e f hu hvP low high low' h same in omega arith)
      (λ (h : d ≤ f).
      let S = (order_of C).again (row v) f (row_in_turn_below C v hvP) h high' in
      let w : ℕ = turn_of m z ds P S.row in
      let is : row w ≡ S.row = in-turn C S.row S.within in
      let soon : w < v = later_sooner C v hvP S.row S.within S.past in
      let one : w ≡ u = only_turn u w e S.degree hu (omega arith) low high S.low S.high (rw is (S.is ∙ same)) in
      omega arith)
      (lt_or_le f d)

  -- a wanted byte stands below degree d in turn t, and in no later turn does one
  pub taken_here : (t e : ℕ) → t < P → z ≤ e → e < d → Wanted m start long (origin m z ds (row t) e) → None (suc t)
      → suc t ≡ rows_taken m z ds d start long
  taken_here t e h low high W N =
      taken_is (suc t)
      (record {
        within = h;
        enough = reached (suc t) N;
        least = λ t' R.
            ⊎_elim (λ (s : t' < suc t).
            let S = R (origin m z ds (row t) e) W in
            absurd (not-before t S.turn e S.degree h (omega (arith, S.early)) low high S.low S.high S.is))
            (λ (s : suc t ≤ t'). s)
            (lt_or_le t' (suc t));
      })

  pub taken_none : None 0 → 0 ≡ rows_taken m z ds d start long
  taken_none N = taken_is 0 (record { within = zero-le; enough = reached 0 N; least = λ t R. zero-le })

  -- where every place of the block is wanted all rows are taken: in the last turn a byte stands that stands in no other
  pub taken-all : ((p : ℕ) → p < m → Wanted m start long p) → rows_taken m z ds d start long ≡ P
  taken-all all =
      let t : ℕ = P - 1 in
      let last : suc t ≡ P = omega (arith, P_some C) in
      let inside : t < P = omega arith in
      let below : origin m z ds (row t) z < m = (order_of C).place (row t) z (row_in_turn_below C t inside) (le_refl z) (order_of C).above in
      sym (sym last ∙ taken_here t z inside (le_refl z) (order_of C).above (all (origin m z ds (row t) z) below) (rw last none_left))
