use Rattle.std.proofs.Common.{◌≡◌, ◌≤◌, ℕ, suc, ◌+◌, ◌*◌, ◌-◌, ◌<◌, ◌^◌, List, [], ◌∷◌, ◌++◌, All, length, get_or, take, drop, map, ℤ, pos, arith, sym, refl, ap, ◌∙◌, subst, take_all, drop_of_length-le, append-nil, add-one, ⊎_elim, eq-or-lt_of_le}
use Rattle.std.proofs.lemmas.Int.{ints}
use borrow.Rule.Slice.PartMut.{put_mid}
use Rattle.std.proofs.lemmas.List.{get_or_default, length-map, length-take-le}
use Rattle.mix_num.specs.Pairs.{IsFirstTight, IsFirstTightOf, left_at}
use Rattle.mix_num.specs.Ranges.{Lies}
use Rattle.mix_num.specs.Shares.{supply_null}
use Rattle.mix_num.specs.Sums.{sum_in}
use Rattle.mix_num.specs.Tables.{number_of}
use Rattle.mix_num.specs.declared.pair.Tight.{Tight}
use Rattle.mix_ties.proofs.Gifts.{greatest-of_floor}
use Rattle.mix_ties.proofs.RowTurns.{bundle-lies, given, later-is, later-lies, map-take-more, null-is-left, row-lies, rows-from, share-none, turn-bundle, turn-from, turn-next, turn-value}
use Rattle.mix_ties.proofs.TieRules.{rule-of_turns, shares-of_turns, tie_rule}
use Rattle.mix_ties.proofs.TightTurns.{first-kept, first-of_turn, first_is, get-before_part, get-part, left-next, place_before, places_all, places_few}
use Rattle.mix_ties.specs.Numbered.{IsDifference, IsFloor, LieWithin, goods_part, null_left}
use Rattle.mix_ties.specs.Turns.{AreGreatestInTurn, IsTurn, ShareInTurn}
use Rattle.mix_ties.proofs.turn.share_in_turn.Goals.{After-find_tights, After-give_row-bundle, After-numbers-row}
use Rattle.mix_ties.proofs.turn.share_in_turn.Goals as goal

-- ---- a row's turn, before it has its bundle
here : (c : After-numbers-row) → c.numbers-row.result.now ≡ get_or c.args.rows.now c.loop-k.k c.numbers-row.result.now
here c = subst (λ (x : List ℤ). x ≡ get_or c.args.rows.now c.loop-k.k x) (sym c.numbers-row.ensures.value) c.index-rows-k.is

pub give_row-bundle-requires-clause-row_range : goal.give_row-bundle-requires-clause-row_range
give_row-bundle-requires-clause-row_range c =
    let r : List ℤ = c.numbers-row.result.now in
    let n : ℕ = length c.args.supply.now.items in
    let h = here (goal.at.give_row-bundle-requires-clause-row_range c).After-numbers-row in
    let t = turn-from n c.loop-k.k c.args.rows.now r c.loop-k.later c.loop-k.left.items c.loop-k-test.true h c.loop-k.invariant.turn in
    rw t.size (row-lies n r (drop (c.loop-k.k + 1) c.args.rows.now) t.proper)

pub give_row-bundle-requires-clause-later_range : goal.give_row-bundle-requires-clause-later_range
give_row-bundle-requires-clause-later_range c =
    let t = c.loop-k.invariant.turn in
    rw t.size (later-lies (length c.args.supply.now.items) (drop c.loop-k.k c.args.rows.now) c.loop-k.later c.loop-k.left.items t)

-- what is left of each good
left_lies : (n : ℕ) (rs : List (List ℤ)) (later left : List ℤ) → IsTurn n rs later left → All (Lies 8000000) left
left_lies n rs later left t i d h =
    let a = t.range i (let s = t.size in omega arith) in
    let e = get_or_default left i d (pos 0) h in
    (omega (arith, ints), omega (arith, ints))

pub give_row-bundle-requires-clause-left : goal.give_row-bundle-requires-clause-left
give_row-bundle-requires-clause-left c = left_lies (length c.args.supply.now.items) (drop c.loop-k.k c.args.rows.now) c.loop-k.later c.loop-k.left.items c.loop-k.invariant.turn

-- ---- once it has it
abbrev goods : After-give_row-bundle → ℕ
goods c = length c.args.supply.now.items

abbrev row : After-give_row-bundle → List ℤ
row c = c.numbers-row.result.now

-- the rows after it
abbrev others : After-give_row-bundle → List (List ℤ)
others c = drop (c.loop-k.k + 1) c.args.rows.now

abbrev xs : After-give_row-bundle → List ℤ
xs c = c.give_row-bundle.result.items

mine : (c : After-give_row-bundle) → row c ≡ get_or c.args.rows.now c.loop-k.k (row c)
mine c = subst (λ (x : List ℤ). x ≡ get_or c.args.rows.now c.loop-k.k x) (sym c.numbers-row.ensures.value) c.index-rows-k.is

here_at : (c : After-give_row-bundle) → row c ≡ get_or c.args.rows.now c.loop-k.k []
here_at c = mine c ∙ get_or_default c.args.rows.now c.loop-k.k (row c) [] c.loop-k-test.true

cons : (c : After-give_row-bundle) → drop c.loop-k.k c.args.rows.now ≡ row c ∷ others c
cons c = rows-from c.args.rows.now c.loop-k.k (row c) c.loop-k-test.true (mine c)

turn : (c : After-give_row-bundle) → IsTurn (goods c) (row c ∷ others c) c.loop-k.later c.loop-k.left.items
turn c = turn-from (goods c) c.loop-k.k c.args.rows.now (row c) c.loop-k.later c.loop-k.left.items c.loop-k-test.true (mine c) c.loop-k.invariant.turn

gone : (c : After-give_row-bundle) → IsDifference (2 ^ suc (goods c)) c.loop-k.later (row c) c.give_row-bundle.new.later
gone c = let s = c.loop-k.invariant.turn.size in rw s at c.give_row-bundle.ensures.later

bundle_is : (c : After-give_row-bundle) → xs c ≡ goods_part (goods c) (given (goods c) (row c) (others c) c.loop-k.later c.loop-k.left.items c.give_row-bundle.new.later (turn c) (gone c))
bundle_is c = turn-bundle (goods c) (row c) (others c) c.loop-k.later c.loop-k.left.items c.give_row-bundle.new.later (xs c) (turn c) (gone c) c.give_row-bundle.ensures.bundle

bundle_lies : (c : After-give_row-bundle) → (length (xs c) ≡ goods c) × All (Lies 8000000) (xs c)
bundle_lies c = bundle-lies (goods c) (row c) (others c) c.loop-k.later c.loop-k.left.items c.give_row-bundle.new.later (xs c) (turn c) (gone c) (bundle_is c)

pub find_tights-requires-clause-row_size : goal.find_tights-requires-clause-row_size
find_tights-requires-clause-row_size c =
    let a = (goal.at.find_tights-requires-clause-row_size c).After-give_row-bundle in
    let e = ap (λ (k : ℕ). 2 ^ suc k) (bundle_lies a).0 in
    let p = (turn a).proper.0.size in
    omega arith

pub find_tights-requires-clause-floor_size : goal.find_tights-requires-clause-floor_size
find_tights-requires-clause-floor_size c =
    let a = (goal.at.find_tights-requires-clause-floor_size c).After-give_row-bundle in
    let e = ap (λ (k : ℕ). 2 ^ suc k) (bundle_lies a).0 in
    omega arith

pub find_tights-requires-clause-upper_size : goal.find_tights-requires-clause-upper_size
find_tights-requires-clause-upper_size c =
    let a = (goal.at.find_tights-requires-clause-upper_size c).After-give_row-bundle in
    let e = ap (λ (k : ℕ). 2 ^ suc k) (bundle_lies a).0 in
    omega arith

pub find_tights-requires-clause-row_range : goal.find_tights-requires-clause-row_range
find_tights-requires-clause-row_range c =
    let a = (goal.at.find_tights-requires-clause-row_range c).After-give_row-bundle in
    rw (bundle_lies a).0 (row-lies (goods a) (row a) (others a) (turn a).proper)

pub find_tights-requires-clause-floor_range : goal.find_tights-requires-clause-floor_range
find_tights-requires-clause-floor_range c =
    let a = (goal.at.find_tights-requires-clause-floor_range c).After-give_row-bundle in
    let s = (turn a).size in
    let r : LieWithin (2 ^ suc (goods a)) (2 ^ 41) c.give_row-bundle.new.floor = rw s at c.give_row-bundle.ensures.floor_range in
    rw (bundle_lies a).0 r

pub find_tights-requires-clause-bundle : goal.find_tights-requires-clause-bundle
find_tights-requires-clause-bundle c = (bundle_lies (goal.at.find_tights-requires-clause-bundle c).After-give_row-bundle).1

pub find_tights-requires-clause-places : goal.find_tights-requires-clause-places
find_tights-requires-clause-places c =
    let a = (goal.at.find_tights-requires-clause-places c).After-give_row-bundle in
    let few = places_few c.loop-k.k (goods a) c.len.result c.len-in-loop-k.result c.first_place-first.result c.first_place-end.result c.loop-k.tights
    c.len.ensures.value c.len-in-loop-k.ensures.value c.first_place-first.ensures c.first_place-end.ensures in
    omega (arith, few, (bundle_lies a).0)

pub find_tights-requires-clause-greatest : goal.find_tights-requires-clause-greatest
find_tights-requires-clause-greatest c =
    let a = (goal.at.find_tights-requires-clause-greatest c).After-give_row-bundle in
    let s = (turn a).size in
    greatest-of_floor (length c.loop-k.left.items) (length (xs a)) (row a) c.give_row-bundle.new.floor c.loop-k.left.items c.give_row-bundle.new.later (xs a) (null_left (length c.loop-k.left.items) c.loop-k.later c.loop-k.left.items)
    (s ∙ sym (bundle_lies a).0) c.give_row-bundle.ensures.floor c.give_row-bundle.ensures.bundle

pub take_from-left-requires-clause-size : goal.take_from-left-requires-clause-size
take_from-left-requires-clause-size c =
    let a = (goal.at.take_from-left-requires-clause-size c).After-give_row-bundle in
    (turn a).size ∙ sym (bundle_lies a).0

pub take_from-left-requires-clause-left : goal.take_from-left-requires-clause-left
take_from-left-requires-clause-left c = left_lies (length c.args.supply.now.items) (drop c.loop-k.k c.args.rows.now) c.loop-k.later c.loop-k.left.items c.loop-k.invariant.turn

pub take_from-left-requires-clause-bundle : goal.take_from-left-requires-clause-bundle
take_from-left-requires-clause-bundle c = (bundle_lies (goal.at.take_from-left-requires-clause-bundle c).After-give_row-bundle).1

-- ---- the bundles that were written so far, and the tight pairs with this one
so_far : After-give_row-bundle → List (List ℤ)
so_far c = map (λ b. b.items) (take c.loop-k.k c.loop-k.bundles)

so_far_size : (c : After-give_row-bundle) → c.loop-k.k ≡ length (so_far c)
unfolding so_far
so_far_size c =
    let l : c.loop-k.k ≤ length c.loop-k.bundles = omega arith in
    sym (length-map (take c.loop-k.k c.loop-k.bundles) (λ b. b.items) ∙ length-take-le c.loop-k.k c.loop-k.bundles l)

left_is : (c : After-give_row-bundle) (set : ℕ)
    → sum_in (supply_null (goods c) (row c ∷ others c) c.loop-k.left.items ∷ c.loop-k.left.items) set ≡ left_at (goods c) c.args.rows.now c.args.supply.now.items (so_far c) c.loop-k.k set
unfolding so_far
left_is c set =
    ap (λ (rs : List (List ℤ)). sum_in (supply_null (goods c) rs c.loop-k.left.items ∷ c.loop-k.left.items) set) (sym (cons c))
    ∙ c.loop-k.invariant.left_is set

-- the pairs of this row
own_pairs : (c : After-give_row-bundle) (j a b : ℕ) → IsFirstTight (length (xs c)) j (row c) (number_of c.give_row-bundle.new.floor) (xs c) a b
    → IsFirstTightOf (goods c) c.args.rows.now c.args.supply.now.items (so_far c ++ xs c ∷ []) c.loop-k.k j a b
own_pairs c j a b t =
    let s = (turn c).size in
    let null : null_left (length c.loop-k.left.items) c.loop-k.later c.loop-k.left.items ≡ supply_null (goods c) (row c ∷ others c) c.loop-k.left.items =
    ap (λ (m : ℕ). null_left m c.loop-k.later c.loop-k.left.items) s ∙ null-is-left (goods c) (row c) (others c) c.loop-k.later c.loop-k.left.items c.give_row-bundle.new.later (turn c) (gone c) in
    let floor : IsFloor (2 ^ suc (goods c)) (null_left (length c.loop-k.left.items) c.loop-k.later c.loop-k.left.items) c.loop-k.left.items c.give_row-bundle.new.later c.give_row-bundle.new.floor =
    subst (λ (m : ℕ). IsFloor (2 ^ suc m) (null_left (length c.loop-k.left.items) c.loop-k.later c.loop-k.left.items) c.loop-k.left.items c.give_row-bundle.new.later c.give_row-bundle.new.floor) s c.give_row-bundle.ensures.floor in
    first-of_turn (goods c) c.loop-k.k (c.loop-k.k + 1) c.args.rows.now (so_far c) c.args.supply.now.items c.loop-k.left.items (row c) (xs c)
    (here_at c) c.loop-k-test.true (so_far_size c) (sym (add-one c.loop-k.k)) (left_is c)
    j a b c.give_row-bundle.new.later c.give_row-bundle.new.floor (null_left (length c.loop-k.left.items) c.loop-k.later c.loop-k.left.items) null
    (later-is (goods c) (row c) (others c) c.loop-k.later c.loop-k.left.items c.give_row-bundle.new.later (turn c) (gone c)) floor
    (subst (λ (m : ℕ). IsFirstTight m j (row c) (number_of c.give_row-bundle.new.floor) (xs c) a b) (bundle_lies c).0 t)

-- where they stand
first_at : (c : After-find_tights) → c.first_place-first.result ≡ c.loop-k.k * length c.args.supply.now.items
first_at c = first_is c.loop-k.k (length c.args.rows.now) (length c.args.supply.now.items) c.len.result (length c.loop-k.tights) c.first_place-first.result c.loop-k-test.true
    (c.loop-k.auto.tights ∙ c.requires.tight_places) c.len.ensures.value c.first_place-first.ensures

new_tights : After-find_tights → List Tight
new_tights c = put_mid c.first_place-first.result (c.first_place-end.result - c.first_place-first.result) c.loop-k.tights c.find_tights.new.tights

earlier_rows : (c : After-find_tights) (i j : ℕ) (d : Tight) → i < c.loop-k.k → j < length c.args.supply.now.items
    → get_or (new_tights c) (i * length c.args.supply.now.items + j) d ≡ get_or c.loop-k.tights (i * length c.args.supply.now.items + j) d
unfolding new_tights
earlier_rows c i j d q l =
    let n : ℕ = length c.args.supply.now.items in
    let f = first_at c in
    let p = place_before i c.loop-k.k n j q l in
    let w = c.first_place-first.ensures in
    get-before_part c.first_place-first.result (c.first_place-end.result - c.first_place-first.result) c.loop-k.tights c.find_tights.new.tights (i * n + j) d (omega arith) (omega arith)

this_row : (c : After-find_tights) (j : ℕ) (d : Tight) → suc c.loop-k.k < length c.args.rows.now → j < length c.args.supply.now.items
    → (j < length c.find_tights.new.tights) × (get_or (new_tights c) (c.loop-k.k * length c.args.supply.now.items + j) d ≡ get_or c.find_tights.new.tights j d)
unfolding new_tights
this_row c j d h l =
    let n : ℕ = length c.args.supply.now.items in
    let f = first_at c in
    let w = c.first_place-first.ensures in
    let all = places_all c.loop-k.k (length c.args.rows.now) n c.len.result c.len-in-loop-k.result c.first_place-first.result c.first_place-end.result c.loop-k.tights h
    (c.loop-k.auto.tights ∙ c.requires.tight_places) c.len.ensures.value c.len-in-loop-k.ensures.value c.first_place-first.ensures c.first_place-end.ensures in
    let lt : j < length c.find_tights.new.tights = let a = c.find_tights.auto.tights in omega arith in (
      lt,
      ap (λ (m : ℕ). get_or (new_tights c) (m + j) d) (sym f)
          ∙ get-part c.first_place-first.result (c.first_place-end.result - c.first_place-first.result) c.loop-k.tights c.find_tights.new.tights j d (omega arith) lt,
    )

pub loop-k-preserved : goal.loop-k-preserved
unfolding so_far new_tights
loop-k-preserved c =
    let a = (goal.at.loop-k-preserved c).After-give_row-bundle in
    let b = (goal.at.loop-k-preserved c).After-find_tights in
    let n : ℕ = goods a in
    let k : ℕ = c.loop-k.k in
    let rows : List (List ℤ) = c.args.rows.now in
    let supply : List ℤ = c.args.supply.now.items in
    let later : List ℤ = c.give_row-bundle.new.later in
    let more = map-take-more (λ b. b.items) c.loop-k.bundles k c.give_row-bundle.result (omega arith) in
    let Pairs : ℕ → ℕ → List (List ℤ) → Tight → Type 0 = λ i j bundles t. IsFirstTightOf n rows supply bundles i j t.upper t.lower in
    record {
      turn = rw c.take_from-left.ensures (turn-next n (row a) (others a) c.loop-k.later c.loop-k.left.items later (xs a) (turn a) (gone a) (bundle_is a));
      later_size = omega arith;
      floor_size = omega arith;
      upper_size = omega arith;
      lower_size = omega arith;
      value = rw (c.take_from-left.ensures, more)
          (turn-value n (row a) (others a) c.loop-k.later c.loop-k.left.items later (xs a) (turn a) (gone a) _ _ (let e = cons a in rw e at c.loop-k.invariant.value) (bundle_is a));
      left_is = λ set.
          ap (λ (w : List ℤ). sum_in (supply_null n (drop (k + 1) rows) w ∷ w) set) c.take_from-left.ensures
          ∙ left-next n k (k + 1) rows (so_far a) supply c.loop-k.left.items (row a) (xs a) (here_at a) c.loop-k-test.true (so_far_size a) (sym (add-one k)) (left_is a) (turn a).size (bundle_lies a).0 set
          ∙ ap (λ (ys : List (List ℤ)). left_at n rows supply ys (k + 1) set) (sym more);
      tights = λ i j d h g l.
          subst (λ (ys : List (List ℤ)). Pairs i j ys (get_or (new_tights b) (i * n + j) d)) (sym more)
          (⊎_elim
          (λ (e : i ≡ k).
          let w = this_row b j d (omega arith) l in
          subst (λ (m : ℕ). Pairs m j (so_far a ++ xs a ∷ []) (get_or (new_tights b) (m * n + j) d)) (sym e)
          (subst (λ (t : Tight). Pairs k j (so_far a ++ xs a ∷ []) t) (sym w.1)
          (own_pairs a j (get_or c.find_tights.new.tights j d).upper (get_or c.find_tights.new.tights j d).lower (c.find_tights.ensures.tights j d (let s = c.find_tights.auto.tights in let z = w.0 in omega arith)))))
          (λ (q : i < k).
          subst (λ (t : Tight). Pairs i j (so_far a ++ xs a ∷ []) t) (sym (earlier_rows b i j d q l))
          (first-kept n rows (so_far a) supply (xs a) i j (get_or c.loop-k.tights (i * n + j) d).upper (get_or c.loop-k.tights (i * n + j) d).lower
          (let z = so_far_size a in omega (arith, z, q)) (c.loop-k.invariant.tights i j d q g l)))
          (eq-or-lt_of_le (let q : i ≤ k = omega arith in q)));
    }

-- ---- all rows had their turn
all_served : (c : goal.After-loop-k) → ShareInTurn (length c.args.supply.now.items) c.args.rows.now (map (λ b. b.items) c.loop-k.bundles) c.args.supply.now.items
    × AreGreatestInTurn (length c.args.supply.now.items) c.args.rows.now (map (λ b. b.items) c.loop-k.bundles) c.args.supply.now.items
all_served c =
    let n : ℕ = length c.args.supply.now.items in
    let all : take c.loop-k.k c.loop-k.bundles ≡ c.loop-k.bundles = take_all _ _ (omega arith) in
    let none : drop c.loop-k.k c.args.rows.now ≡ [] = drop_of_length-le c.args.rows.now {i = c.loop-k.k} (omega arith) in
    let v = rw (all, none, share-none, append-nil) at c.loop-k.invariant.value in
    rw (← v) (tie_rule n c.args.rows.now c.args.supply.now.items refl c.requires.turn.proper c.requires.turn.lies)

pub returns-clause-shares : goal.returns-clause-shares
returns-clause-shares c = shares-of_turns (length c.args.supply.now.items) c.args.rows.now _ c.args.supply.now.items refl (all_served c).0

pub returns-clause-tie_rule : goal.returns-clause-tie_rule
returns-clause-tie_rule c = rule-of_turns (length c.args.supply.now.items) c.args.rows.now _ c.args.supply.now.items refl (all_served c).0 (all_served c).1

pub returns-clause-tights : goal.returns-clause-tights
returns-clause-tights c = λ i j d h l.
    let all : take c.loop-k.k c.loop-k.bundles ≡ c.loop-k.bundles = take_all _ _ (omega arith) in
    let t = c.loop-k.invariant.tights i j d (let e = c.loop-k-test.false in omega arith) h l in
    rw all at t
