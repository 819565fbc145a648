-- The weight of a value vector, read off the indirect utility: at the vector's own numbers, with -1 where it has none, the bids whose best set is all
-- that it offers are those with this vector; and the weights by best set are told by the utility near these prices, and at -1 and -2 in every good.
use Rattle.std.proofs.Common.{◌≡◌, ◌⊎◌, inl, inr, ⊎_elim, ℕ, zero, suc, ◌+◌, ◌^◌, ◌≤◌, ◌<◌, Bool, true, false, not, cond, eqb, List, [], ◌∷◌, ℤ, pos, negsuc, ◌+ℤ◌, ◌-ℤ◌, ◌*ℤ◌, ◌≤ℤ◌, ◌<ℤ◌, refl, arith, sym, ap, ap₂, subst, ◌∙◌, Option, Some, None, get_or, length, replicate}
use Rattle.std.specs.Option.{is_some}
use Rattle.std.specs.Ordering.{is_eq}
use Rattle.std.proofs.lemmas.Int.{ints}
use Rattle.std.proofs.lemmas.Bool.Decides.{nat_tests}
use Rattle.std.proofs.lemmas.List.{ext_get_or, get_or-map, get_or-replicate}
use Rattle.std.proofs.lemmas.List.Elements.{All-get_or, All-head, All-tail}
use Rattle.mix_num.specs.Vectors.{Agree, Choices, Vector, bit, members, minus, only, outside, plus, shifted, with_null}
use Rattle.mix_num.specs.Moves.{IsSetOfGoods}
use Rattle.mix_num.proofs.Masks.{mask_below, mask_members, mask_of}
use Rattle.mix_bids.specs.Offers.{AreOffers, IsOffer, Offers, best, gain, offer, same_set}
use Rattle.mix_bids.specs.Bids.{AreBids, IsBid, total_weight, utility, weight_where, weight_within}
use Rattle.mix_bids.specs.declared.bid.Bid.{Bid}
use Rattle.mix_bids.proofs.BestChoices.{leaves-true, leaves_offer}
use Rattle.mix_bids.proofs.Cases.{by_test, not_true, same_bool}
use Rattle.mix_bids.proofs.Gains.{IsGain, gain_is, gain_one, offered_within}
use Rattle.mix_bids.proofs.Lengths.{AreOver, over_of}
use Rattle.mix_bids.proofs.Near.{utility_near}
use Rattle.mix_bids.proofs.Sets.{same_set-intro, same_set-true}
use Rattle.mix_bids.proofs.Weights.{utility_falls, utility_reads, utility_shifted}
use Rattle.mix_canon.specs.Canons.{value_order, weight_of}
use Rattle.mix_canon.specs.Searches.{AgreeLow, AgreeRound, price_of, prices_of}
use Rattle.mix_canon.proofs.Orders.{same_itself, same_values}
use Rattle.mix_canon.proofs.Exactings.{exact_same}

-- the price a for every good
abbrev pub throughout : ℤ → Vector
throughout a zero = pos 0
throughout a (suc k) = a

throughout_list : (n : ℕ) (a : ℤ) → Agree n (with_null (replicate n a)) (throughout a)
throughout_list n a zero l = refl
throughout_list n a (suc k) l = get_or-replicate n k a (pos 0) (omega arith)

-- ---- the total
cheaper : ℤ → Vector
cheaper a zero = negsuc 0
cheaper a (suc k) = a

total_told : (n : ℕ) (bs : List Bid) → AreBids n bs → total_weight bs ≡ utility bs (throughout (negsuc 1)) -ℤ utility bs (throughout (negsuc 0))
unfolding cheaper
total_told n bs are =
    let o = over_of n bs are in
    let y = cheaper (negsuc 1) in
    let near = utility_near n bs y are below in
    let first = utility_reads n bs (plus y (only 0)) (throughout (negsuc 1)) o back in
    let second = utility_reads n bs (shifted y (pos 1)) (throughout (negsuc 0)) o up in
    let s = utility_shifted bs y (pos 1) in
    omega (arith, ints)
  where
    below : (i : ℕ) → 1 ≤ i → i ≤ n → cheaper (negsuc 1) i <ℤ cheaper (negsuc 1) 0
    below zero l h = absurd (omega arith)
    below (suc i) l h = omega (arith, ints)

    back : Agree n (plus (cheaper (negsuc 1)) (only 0)) (throughout (negsuc 1))
    back zero l = refl
    back (suc k) l = let e : eqb (suc k) 0 ≡ false = grind (arith, nat_tests) in let f = ap bit e in omega (arith, ints)

    up : Agree n (shifted (cheaper (negsuc 1)) (pos 1)) (throughout (negsuc 0))
    up zero l = refl
    up (suc k) l = refl

-- ---- the weights within each set, from the utility near the prices
-- the utility after a step of a set of goods is that after the step of its number
module _ {n : ℕ} {bs cs : List Bid} (v : Offers) (bare : AreBids n bs) (care : AreBids n cs) (low : AgreeLow n bs cs) (round : AgreeRound n bs cs v) where
  throughout_same : (a : ℤ) → utility bs (with_null (replicate n a)) ≡ utility cs (with_null (replicate n a)) → utility bs (throughout a) ≡ utility cs (throughout a)
  throughout_same a e = sym (utility_reads n bs _ _ (over_of n bs bare) (throughout_list n a)) ∙ e ∙ utility_reads n cs _ _ (over_of n cs care) (throughout_list n a)

  total_same : total_weight bs ≡ total_weight cs
  total_same =
      let a = total_told n bs bare in
      let b = total_told n cs care in
      let p = throughout_same (negsuc 0) low.one in
      let q = throughout_same (negsuc 1) low.two in
      omega (arith, ints)

  set_of : (s : Choices) → s 0 ≡ false → IsSetOfGoods n (mask_of (suc n) s)
  set_of s e = (let b = mask_below (suc n) s in let f : n + 1 ≡ suc n = omega arith in subst (λ (k : ℕ). mask_of (suc n) s < 2 ^ k) (sym f) b, mask_members (suc n) s 0 (omega arith) ∙ e)

  raised_same : (s : Choices) → s 0 ≡ false → utility bs (plus (with_null (prices_of v)) s) ≡ utility cs (plus (with_null (prices_of v)) s)
  raised_same s e =
      let x = with_null (prices_of v) in
      let m : Agree n (plus x s) (plus x (members (mask_of (suc n) s))) = λ k l. ap (λ (b : Bool). x k +ℤ bit b) (sym (mask_members (suc n) s k (omega arith))) in
      utility_reads n bs _ _ (over_of n bs bare) m ∙ (round (mask_of (suc n) s) (set_of s e)).up ∙ sym (utility_reads n cs _ _ (over_of n cs care) m)

  lowered_same : (s : Choices) → s 0 ≡ false → utility bs (minus (with_null (prices_of v)) s) ≡ utility cs (minus (with_null (prices_of v)) s)
  lowered_same s e =
      let x = with_null (prices_of v) in
      let m : Agree n (minus x s) (minus x (members (mask_of (suc n) s))) = λ k l. ap (λ (b : Bool). x k -ℤ bit b) (sym (mask_members (suc n) s k (omega arith))) in
      utility_reads n bs _ _ (over_of n bs bare) m ∙ (round (mask_of (suc n) s) (set_of s e)).down ∙ sym (utility_reads n cs _ _ (over_of n cs care) m)

  -- where the null choice is raised too, the other goods are lowered
  turned : (ds : List Bid) → AreOver n ds → (x : Vector) (s : Choices) → utility ds (plus x s) ≡ utility ds (minus x (outside s)) -ℤ (pos 1 *ℤ total_weight ds)
  turned ds o x s = utility_reads n ds (plus x s) (shifted (minus x (outside s)) (pos 1)) o (λ k l. at (x k) (s k)) ∙ utility_shifted ds (minus x (outside s)) (pos 1)
    where
      at : (a : ℤ) (b : Bool) → a +ℤ bit b ≡ (a -ℤ bit (not b)) +ℤ pos 1
      at a true = omega (arith, ints)
      at a false = omega (arith, ints)

  stepped_same : (s : Choices) → utility bs (plus (with_null (prices_of v)) s) ≡ utility cs (plus (with_null (prices_of v)) s)
  stepped_same s = by_test (s 0)
      (λ e.
      let x = with_null (prices_of v) in
      let a = turned bs (over_of n bs bare) x s in
      let b = turned cs (over_of n cs care) x s in
      let d = lowered_same (outside s) (ap not e) in
      let t = total_same in
      omega (arith, ints))
      (λ e. raised_same s e)

  nothing_same : utility bs (with_null (prices_of v)) ≡ utility cs (with_null (prices_of v))
  nothing_same =
      let x = with_null (prices_of v) in
      let m : Agree n (plus x (λ k. false)) x = λ k l. omega (arith, ints) in
      sym (utility_reads n bs _ _ (over_of n bs bare) m) ∙ stepped_same (λ k. false) ∙ utility_reads n cs _ _ (over_of n cs care) m

  within_same : (s : Choices) → weight_within n s bs (with_null (prices_of v)) ≡ weight_within n s cs (with_null (prices_of v))
  within_same s =
      let x = with_null (prices_of v) in
      let a = utility_falls n bs x s (over_of n bs bare) in
      let b = utility_falls n cs x s (over_of n cs care) in
      let p = stepped_same s in
      let q = nothing_same in
      omega (arith, ints)

-- ---- the best set is all that is offered exactly where the values are the same
-- all that a vector offers
abbrev pub offered : Offers → Choices
offered v k = is_some (offer v k)

price_at : (v : Offers) (k : ℕ) → k < length v → with_null (prices_of v) (suc k) ≡ price_of (get_or v k None)
price_at v k l = get_or-map price_of v k None (pos 0) l

own_gain : (n : ℕ) (v : Offers) → length v ≡ n → IsGain v (with_null (prices_of v)) (pos 0)
own_gain n v e = record { upper = upper; place = 0; value = pos 0; offered = refl; reached = refl }
  where
    upper : (k : ℕ) (a : ℤ) → offer v k ≡ Some a → (a -ℤ with_null (prices_of v) k) ≤ℤ pos 0
    upper zero a o = let q : pos 0 ≡ a = cc in omega (arith, ints)
    upper (suc k) a o = let l = offered_within v (suc k) a o in let p = price_at v k (omega arith) ∙ ap price_of o in omega (arith, ints)

-- the vector's own best set
own_best : (n : ℕ) (v : Offers) → length v ≡ n → (k : ℕ) → k ≤ n → best v (with_null (prices_of v)) k ≡ offered v k
own_best n v e k l = at (offer v k) refl
  where
    none : gain v (with_null (prices_of v)) ≡ pos 0
    none = gain_one v (with_null (prices_of v)) _ _ (gain_is v (with_null (prices_of v))) (own_gain n v e)

    price : (k : ℕ) (a : ℤ) → offer v k ≡ Some a → with_null (prices_of v) k ≡ a
    price zero a o = let q : pos 0 ≡ a = cc in q
    price (suc k) a o = let l = offered_within v (suc k) a o in price_at v k (omega arith) ∙ ap price_of o

    at : (o : Option ℤ) → offer v k ≡ o → best v (with_null (prices_of v)) k ≡ offered v k
    at None o = not_true _ (λ h. let b = leaves-true (offer v k) (with_null (prices_of v) k) (gain v (with_null (prices_of v))) h in let f = b.offered in absurd (cc)) ∙ sym (ap is_some o)
    at (Some a) o = let p = price k a o in let g = none in leaves_offer (offer v k) (with_null (prices_of v) k) (gain v (with_null (prices_of v))) a o (omega (arith, ints)) ∙ sym (ap is_some o)

-- a bid whose best set there is all that the vector offers has the vector's values
read_offer : (n : ℕ) (us v : Offers) → AreOffers n us → AreOffers n v → same_set (suc n) (best us (with_null (prices_of v))) (offered v) ≡ true → (k : ℕ) → k < n → get_or us k None ≡ get_or v k None
read_offer n us v uare vare h k l = at (get_or v k None) refl (get_or us k None) refl
  where
    x : Vector
    x = with_null (prices_of v)

    null : gain us (with_null (prices_of v)) ≡ pos 0
    null =
        let b = leaves-true (Some (pos 0)) (pos 0) (gain us (with_null (prices_of v))) (same_set-true (suc n) (best us (with_null (prices_of v))) (offered v) h 0 (omega arith)) in
        let q : pos 0 ≡ b.value = let e = b.offered in cc in
        let r = b.leaves in
        omega (arith, ints)

    price : with_null (prices_of v) (suc k) ≡ price_of (get_or v k None)
    price = price_at v k (let s = vare.size in omega arith)

    same : best us (with_null (prices_of v)) (suc k) ≡ is_some (get_or v k None)
    same = same_set-true (suc n) (best us (with_null (prices_of v))) (offered v) h (suc k) (omega arith)

    at : (o : Option ℤ) → get_or v k None ≡ o → (p : Option ℤ) → get_or us k None ≡ p → get_or us k None ≡ get_or v k None
    at None e None f = f ∙ sym e
    at None e (Some a) f =
        let u = (gain_is us (with_null (prices_of v))).upper (suc k) a f in
        let q = price ∙ ap price_of e in
        let g = null in
        let i = All-get_or IsOffer us k None (let s = uare.size in omega arith) uare.each a f in
        absurd (omega (arith, ints, i.0, u, q, g))
    at (Some a) e p f =
        let b = leaves-true (offer us (suc k)) (with_null (prices_of v) (suc k)) (gain us (with_null (prices_of v))) (same ∙ ap is_some e) in
        let q = price ∙ ap price_of e in
        let r = b.leaves in
        let g = null in
        let w : b.value ≡ a = omega (arith, ints) in
        b.offered ∙ ap Some w ∙ sym e

exact_is : (n : ℕ) (us v : Offers) → AreOffers n us → AreOffers n v → is_eq (value_order v us) ≡ same_set (suc n) (best us (with_null (prices_of v))) (offered v)
exact_is n us v uare vare = same_bool _ _
    (λ h.
    let e = same_values v us h in
    let P : Offers → Type 0 = λ w. same_set (suc n) (best w (with_null (prices_of v))) (offered v) ≡ true in
    subst P e (same_set-intro (suc n) (best v (with_null (prices_of v))) (offered v) (λ k l. own_best n v vare.size k (omega arith))))
    (λ h. same_itself v us (sym (ext_get_or None us v (uare.size ∙ sym vare.size) (λ k l. read_offer n us v uare vare h k (let s = uare.size in omega arith)))))

weight_is_exact : (n : ℕ) (v : Offers) (bs : List Bid) → AreOffers n v → AreBids n bs → weight_of v bs ≡ weight_where (λ b. same_set (suc n) (best b.values.items (with_null (prices_of v))) (offered v)) bs
weight_is_exact n v [] vare are = refl
weight_is_exact n v (b ∷ bs) vare are =
    ap₂ (λ (t : Bool) (a : ℤ). cond t b.weight (pos 0) +ℤ a) (exact_is n b.values.items v (All-head (IsBid n) b bs are).offers vare) (weight_is_exact n v bs vare (All-tail (IsBid n) b bs are))

-- lists that agree round a vector, and at -1 and -2, give it the same weight
pub weight_told : (n : ℕ) (bs cs : List Bid) (v : Offers) → AreBids n bs → AreBids n cs → AreOffers n v → AgreeLow n bs cs → AgreeRound n bs cs v → weight_of v bs ≡ weight_of v cs
weight_told n bs cs v bare care vare low round =
    weight_is_exact n v bs vare bare
    ∙ exact_same n bs cs (with_null (prices_of v)) (within_same v bare care low round) (offered v)
    ∙ sym (weight_is_exact n v cs vare care)

-- a vector that no bid has weighs nothing
pub offers_or_nothing : (n : ℕ) (v : Offers) (bs : List Bid) → AreBids n bs → AreOffers n v ⊎ (weight_of v bs ≡ pos 0)
offers_or_nothing n v [] are = inr refl
offers_or_nothing n v (b ∷ bs) are = by_test (is_eq (value_order v b.values.items))
    (λ t. inl (subst (AreOffers n) (sym (same_values v b.values.items t)) (All-head (IsBid n) b bs are).offers))
    (λ t. ⊎_elim inl (λ e. inr (let q = ap (λ (c : Bool). cond c b.weight (pos 0)) t in omega (arith, ints))) (offers_or_nothing n v bs (All-tail (IsBid n) b bs are)))
