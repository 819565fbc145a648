-- Weighted vectors gathered: in order, each once, and none of weight 0. What they weigh and what they add up to stays, and there is one such list.
use Rattle.std.proofs.Common.{◌≡◌, ◌≢◌, Bool, true, false, cond, List, [], ◌∷◌, ℤ, pos, ◌+ℤ◌, ◌*ℤ◌, refl, arith, sym, ap, ap₂, ◌∙◌, int_eq}
use Rattle.std.proofs.lemmas.Int.{ints}
use Rattle.std.proofs.lemmas.Bool.{false≢true}
use Rattle.std.proofs.Math.IntN.{zero-*ℤ}
use Rattle.std.specs.declared.cmp.Ordering.{Ordering}
use Rattle.std.specs.declared.cmp.Ordering.TheVariants.{Less, Equal, Greater}
use Rattle.std.specs.Ordering.{is_eq}
use Rattle.mix_num.proofs.Equalities.{int_eq_is}
use Rattle.mix_num.proofs.Products.{sum-*ℤ}
use Rattle.mix_bids.specs.Offers.{Offers}
use Rattle.mix_bids.proofs.Cases.{by_test}
use Rattle.mix_canon.specs.Canons.{value_order}
use Rattle.mix_canon.proofs.Orders.{exact_values, greater_turned, less_apart, same_itself, total_order}

-- vectors with weights
abbrev pub Weighted : Type 0
Weighted = List (Offers × ℤ)

-- the sum of the weights of a vector
abbrev pub weight_in : Offers → Weighted → ℤ
weight_in v [] = pos 0
weight_in v (p ∷ ps) = cond (is_eq (value_order v p.0)) p.1 (pos 0) +ℤ weight_in v ps

-- the sum of the weights times a function of their vectors
abbrev pub sum_of : (Offers → ℤ) → Weighted → ℤ
sum_of f [] = pos 0
sum_of f (p ∷ ps) = (p.1 *ℤ f p.0) +ℤ sum_of f ps

-- v is below every vector of the list
abbrev pub IsBelow : Offers → Weighted → Type 0
IsBelow v [] = Unit {0}
IsBelow v (p ∷ ps) = (value_order v p.0 ≡ Less) × IsBelow v ps

-- in strict order, and no weight is 0
abbrev pub IsGathered : Weighted → Type 0
IsGathered [] = Unit {0}
IsGathered (p ∷ ps) = IsBelow p.0 ps × (p.1 ≢ pos 0) × IsGathered ps

-- one more in front, unless its weight is 0
abbrev put : Offers → ℤ → Weighted → Weighted
put v w ps = cond (int_eq w (pos 0)) ps ((v, w) ∷ ps)

abbrev placed_by : Ordering → Offers → ℤ → Offers × ℤ → Weighted → Weighted → Weighted
placed_by Less v w p ps rest = put v w (p ∷ ps)
placed_by Equal v w p ps rest = put p.0 (w +ℤ p.1) ps
placed_by Greater v w p ps rest = p ∷ rest

-- one more in its place
abbrev placed : Offers → ℤ → Weighted → Weighted
placed v w [] = put v w []
placed v w (p ∷ ps) = placed_by (value_order v p.0) v w p ps (placed v w ps)

abbrev pub gathered : Weighted → Weighted
gathered [] = []
gathered (p ∷ ps) = placed p.0 p.1 (gathered ps)

-- ---- weights
weight-put : (u v : Offers) (w : ℤ) (ps : Weighted) → weight_in u (put v w ps) ≡ cond (is_eq (value_order u v)) w (pos 0) +ℤ weight_in u ps
weight-put u v w ps = by_test (int_eq w (pos 0))
    (λ t. let e = (int_eq_is w (pos 0)).0 t in let q = ap (λ (b : Bool). weight_in u (cond b ps ((v, w) ∷ ps))) t in let z = nothing (is_eq (value_order u v)) w e in omega (arith, ints))
    (λ t. ap (λ (b : Bool). weight_in u (cond b ps ((v, w) ∷ ps))) t)
  where
    nothing : (b : Bool) (w : ℤ) → w ≡ pos 0 → cond b w (pos 0) ≡ pos 0
    nothing true w e = e
    nothing false w e = refl

either_weight : (b : Bool) (w x : ℤ) → cond b (w +ℤ x) (pos 0) ≡ cond b w (pos 0) +ℤ cond b x (pos 0)
either_weight true w x = refl
either_weight false w x = refl

weight-placed : (u v : Offers) (w : ℤ) (ps : Weighted) → weight_in u (placed v w ps) ≡ cond (is_eq (value_order u v)) w (pos 0) +ℤ weight_in u ps
weight-placed u v w [] = weight-put u v w []
weight-placed u v w (p ∷ ps) = at (value_order v p.0) refl (weight-placed u v w ps)
  where
    at : (o : Ordering) → value_order v p.0 ≡ o → weight_in u (placed v w ps) ≡ cond (is_eq (value_order u v)) w (pos 0) +ℤ weight_in u ps → weight_in u (placed_by o v w p ps (placed v w ps)) ≡ cond (is_eq (value_order u v)) w (pos 0) +ℤ (cond (is_eq (value_order u p.0)) p.1 (pos 0) +ℤ weight_in u ps)
    at Less e h = weight-put u v w (p ∷ ps)
    at Equal e h =
        let q = weight-put u p.0 (w +ℤ p.1) ps in
        let s = ap (λ (z : Offers). cond (is_eq (value_order u z)) w (pos 0)) (exact_values v p.0 e) in
        let t = either_weight (is_eq (value_order u p.0)) w p.1 in
        omega (arith, ints)
    at Greater e h = omega (arith, ints)

pub weight-gathered : (u : Offers) (ps : Weighted) → weight_in u (gathered ps) ≡ weight_in u ps
weight-gathered u [] = refl
weight-gathered u (p ∷ ps) = let h = weight-gathered u ps in let q = weight-placed u p.0 p.1 (gathered ps) in omega (arith, ints)

-- ---- sums
sum-put : (f : Offers → ℤ) (v : Offers) (w : ℤ) (ps : Weighted) → sum_of f (put v w ps) ≡ (w *ℤ f v) +ℤ sum_of f ps
sum-put f v w ps = by_test (int_eq w (pos 0))
    (λ t. let e = (int_eq_is w (pos 0)).0 t in let q = ap (λ (b : Bool). sum_of f (cond b ps ((v, w) ∷ ps))) t in let z = ap (λ (k : ℤ). k *ℤ f v) e in let y = zero-*ℤ (f v) in omega (arith, ints))
    (λ t. ap (λ (b : Bool). sum_of f (cond b ps ((v, w) ∷ ps))) t)

sum-placed : (f : Offers → ℤ) (v : Offers) (w : ℤ) (ps : Weighted) → sum_of f (placed v w ps) ≡ (w *ℤ f v) +ℤ sum_of f ps
sum-placed f v w [] = sum-put f v w []
sum-placed f v w (p ∷ ps) = at (value_order v p.0) refl (sum-placed f v w ps)
  where
    at : (o : Ordering) → value_order v p.0 ≡ o → sum_of f (placed v w ps) ≡ (w *ℤ f v) +ℤ sum_of f ps → sum_of f (placed_by o v w p ps (placed v w ps)) ≡ (w *ℤ f v) +ℤ ((p.1 *ℤ f p.0) +ℤ sum_of f ps)
    at Less e h = sum-put f v w (p ∷ ps)
    at Equal e h =
        let q = sum-put f p.0 (w +ℤ p.1) ps in
        let s = ap (λ (z : Offers). w *ℤ f z) (exact_values v p.0 e) in
        let t = sum-*ℤ w p.1 (f p.0) in
        omega (arith, ints)
    at Greater e h = omega (arith, ints)

pub sum-gathered : (f : Offers → ℤ) (ps : Weighted) → sum_of f (gathered ps) ≡ sum_of f ps
sum-gathered f [] = refl
sum-gathered f (p ∷ ps) = let h = sum-gathered f ps in let q = sum-placed f p.0 p.1 (gathered ps) in omega (arith, ints)

-- ---- the order
pub below_all : (u v : Offers) (ps : Weighted) → value_order u v ≡ Less → IsBelow v ps → IsBelow u ps
below_all u v [] h b = tt
below_all u v (p ∷ ps) h b = (total_order.trans u v p.0 h b.0, below_all u v ps h b.1)

below-put : (u v : Offers) (w : ℤ) (ps : Weighted) → value_order u v ≡ Less → IsBelow u ps → IsBelow u (put v w ps)
below-put u v w ps h b = at (int_eq w (pos 0))
  where
    at : (t : Bool) → IsBelow u (cond t ps ((v, w) ∷ ps))
    at true = b
    at false = (h, b)

below-placed : (u v : Offers) (w : ℤ) (ps : Weighted) → value_order u v ≡ Less → IsBelow u ps → IsBelow u (placed v w ps)
below-placed u v w [] h b = below-put u v w [] h b
below-placed u v w (p ∷ ps) h b = at (value_order v p.0) (below-placed u v w ps h b.1)
  where
    at : (o : Ordering) → IsBelow u (placed v w ps) → IsBelow u (placed_by o v w p ps (placed v w ps))
    at Less r = below-put u v w (p ∷ ps) h b
    at Equal r = below-put u p.0 (w +ℤ p.1) ps b.0 b.1
    at Greater r = (b.0, r)

gathered-put : (v : Offers) (w : ℤ) (ps : Weighted) → IsBelow v ps → IsGathered ps → IsGathered (put v w ps)
gathered-put v w ps b g = at (int_eq w (pos 0)) refl
  where
    at : (t : Bool) → int_eq w (pos 0) ≡ t → IsGathered (cond t ps ((v, w) ∷ ps))
    at true e = g
    at false e = (b, λ z. false≢true (sym e ∙ (int_eq_is w (pos 0)).1 z), g)

gathered-placed : (v : Offers) (w : ℤ) (ps : Weighted) → IsGathered ps → IsGathered (placed v w ps)
gathered-placed v w [] g = gathered-put v w [] tt tt
gathered-placed v w (p ∷ ps) g = at (value_order v p.0) refl (gathered-placed v w ps g.2)
  where
    at : (o : Ordering) → value_order v p.0 ≡ o → IsGathered (placed v w ps) → IsGathered (placed_by o v w p ps (placed v w ps))
    at Less e r = gathered-put v w (p ∷ ps) (e, below_all v p.0 ps e g.0) g
    at Equal e r = gathered-put p.0 (w +ℤ p.1) ps g.0 g.2
    at Greater e r = (below-placed p.0 v w ps (greater_turned v p.0 e) g.0, g.1, r)

pub gathered_is : (ps : Weighted) → IsGathered (gathered ps)
gathered_is [] = tt
gathered_is (p ∷ ps) = gathered-placed p.0 p.1 (gathered ps) (gathered_is ps)

-- ---- there is one
pub absent : (v : Offers) (ps : Weighted) → IsBelow v ps → weight_in v ps ≡ pos 0
absent v [] b = refl
absent v (p ∷ ps) b =
    let h = absent v ps b.1 in
    let e = ap (λ (t : Bool). cond t p.1 (pos 0)) (less_apart v p.0 b.0) in
    omega (arith, ints)

here : (v : Offers) (p : Offers × ℤ) (ps : Weighted) → v ≡ p.0 → IsBelow p.0 ps → weight_in v (p ∷ ps) ≡ p.1
here v p ps e b =
    let t = ap (λ (t : Bool). cond t p.1 (pos 0)) (same_itself v p.0 e) in
    let a = absent p.0 ps b in
    let f = ap (λ (u : Offers). weight_in u ps) e in
    omega (arith, ints)

pub one_gathered : (ps qs : Weighted) → IsGathered ps → IsGathered qs → ((v : Offers) → weight_in v ps ≡ weight_in v qs) → ps ≡ qs
one_gathered [] [] g h e = refl
one_gathered [] (q ∷ qs) g h e = absurd (h.1 (sym (here q.0 q qs refl h.0) ∙ sym (e q.0)))
one_gathered (p ∷ ps) [] g h e = absurd (g.1 (sym (here p.0 p ps refl g.0) ∙ e p.0))
one_gathered (p ∷ ps) (q ∷ qs) g h e = at (value_order p.0 q.0) refl (one_gathered ps qs g.2 h.2)
  where
    at : (o : Ordering) → value_order p.0 q.0 ≡ o → (((v : Offers) → weight_in v ps ≡ weight_in v qs) → ps ≡ qs) → p ∷ ps ≡ q ∷ qs
    at Less f r = absurd (g.1 (sym (here p.0 p ps refl g.0) ∙ e p.0 ∙ absent p.0 (q ∷ qs) (f, below_all p.0 q.0 qs f h.0)))
    at Greater f r =
        let l = greater_turned p.0 q.0 f in
        absurd (h.1 (sym (here q.0 q qs refl h.0) ∙ sym (e q.0) ∙ absent q.0 (p ∷ ps) (l, below_all q.0 p.0 ps l g.0)))
    at Equal f r =
        let v = exact_values p.0 q.0 f in
        let w : p.1 ≡ q.1 = sym (here p.0 p ps refl g.0) ∙ e p.0 ∙ here p.0 q qs v h.0 in
        let first : p ≡ q = ap₂ (λ (a : Offers) (b : ℤ). (a, b)) v w in
        ap₂ (λ (a : Offers × ℤ) (b : Weighted). a ∷ b) first (r (λ u.
        let s = e u in
        let t = ap (λ (z : Offers). is_eq (value_order u z)) v in
        let c = ap₂ (λ (b : Bool) (a : ℤ). cond b a (pos 0)) t w in
        omega (arith, ints)))

-- lists that weigh the same at every vector add up to the same, whatever the function
pub same_sums : (f : Offers → ℤ) (ps qs : Weighted) → ((v : Offers) → weight_in v ps ≡ weight_in v qs) → sum_of f ps ≡ sum_of f qs
same_sums f ps qs e =
    sym (sum-gathered f ps)
    ∙ ap (sum_of f) (one_gathered (gathered ps) (gathered qs) (gathered_is ps) (gathered_is qs) (λ v. weight-gathered v ps ∙ e v ∙ sym (weight-gathered v qs)))
    ∙ sum-gathered f qs
