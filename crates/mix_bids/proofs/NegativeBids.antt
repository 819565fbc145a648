-- The bids of negative weight of a list with one bid more: their agreements with a new one, and what they keep.
use Rattle.std.proofs.Common.{◌≡◌, ◌<◌, ◌+◌, ◌∙◌, ℕ, suc, ◌⊎◌, inl, inr, true, false, cond, List, [], ◌∷◌, ◌++◌, pos, ap, arith, eq-or-lt_of_le, get_or, int_lt, length, length-append, refl, subst, sym, take, int_eq}
use Rattle.std.proofs.Math.Seq.{get_or-append_seam, take-length}
use Rattle.std.proofs.lemmas.List.{append-nil, get_or_append_left, take-append-le, take_more}
use Rattle.std.proofs.lemmas.List.Elements.{filter-append}
use Rattle.std.specs.Set.{distinct_count}
use Rattle.mix_bids.specs.Levels.{other}
use Rattle.mix_bids.specs.Counted.{counts_in, AreKept, IsCounted}
use Rattle.mix_bids.specs.Shared.{agreement_in, bid_in, negatives, AreAgreements, IsAgreement}
use Rattle.mix_bids.specs.declared.agreements.Agreement.{Agreement}
use Rattle.mix_bids.specs.declared.bid.Bid.{Bid}
use Rattle.mix_bids.specs.declared.counts.Counts.{Counts}
use Rattle.mix_bids.proofs.KeptLeads.{leads_of_negatives}

pub negatives_push : (bs : List Bid) (b : Bid) → int_lt b.weight (pos 0) ≡ true → negatives (bs ++ b ∷ []) ≡ negatives bs ++ b ∷ []
negatives_push bs b h = filter-append (λ b. int_lt b.weight (pos 0)) bs (b ∷ []) ∙ ap (λ t. negatives bs ++ cond t (b ∷ []) []) h

pub negatives_same : (bs : List Bid) (b : Bid) → int_lt b.weight (pos 0) ≡ false → negatives (bs ++ b ∷ []) ≡ negatives bs
negatives_same bs b h = filter-append (λ b. int_lt b.weight (pos 0)) bs (b ∷ []) ∙ ap (λ t. negatives bs ++ cond t (b ∷ []) []) h ∙ append-nil (negatives bs)

-- the bids before place k, and the one at it
pub taken : (bs : List Bid) (k : ℕ) (e : Bid) → k < length bs → e ≡ get_or bs k e → take (k + 1) bs ≡ take k bs ++ e ∷ []
taken bs k e l q = take_more bs k e l ∙ ap (λ z. take k bs ++ z ∷ []) (sym q)

-- a place of a list with one more at its end is a place of the list, or the last one
pub place_of : {A : Type 0} (xs : List A) (x : A) (p : ℕ) → p < length (xs ++ x ∷ []) → (p ≡ length xs) ⊎ (p < length xs)
place_of xs x p l = eq-or-lt_of_le (let e = length-append xs (x ∷ []) in omega arith)

pub agreements_push : (es : List Bid) (b e : Bid) (rs : List Agreement) (r : Agreement) → AreAgreements es b rs → IsAgreement e.values.items b.values.items r → AreAgreements (es ++ e ∷ []) b (rs ++ r ∷ [])
agreements_push es b e rs r a h = record {
  size = length-append rs (r ∷ []) ∙ ap (λ z. z + 1) a.size ∙ sym (length-append es (e ∷ []));
  each = λ p l. at p (place_of es e p l);
}
  where
    at : (p : ℕ) → (p ≡ length es) ⊎ (p < length es) → IsAgreement (bid_in (es ++ e ∷ []) p).values.items b.values.items (agreement_in (rs ++ r ∷ []) p)
    at p (inl q) =
        let i : bid_in (es ++ e ∷ []) p ≡ e = ap (bid_in (es ++ e ∷ [])) q ∙ get_or-append_seam es e [] _ in
        let j : agreement_in (rs ++ r ∷ []) p ≡ r = ap (agreement_in (rs ++ r ∷ [])) (q ∙ sym a.size) ∙ get_or-append_seam rs r [] _ in
        subst (λ z. IsAgreement z.values.items b.values.items (agreement_in (rs ++ r ∷ []) p)) (sym i) (subst (IsAgreement e.values.items b.values.items) (sym j) h)
    at p (inr l) =
        let s = a.size in
        let i : bid_in (es ++ e ∷ []) p ≡ bid_in es p = get_or_append_left es (e ∷ []) _ p l in
        let j : agreement_in (rs ++ r ∷ []) p ≡ agreement_in rs p = get_or_append_left rs (r ∷ []) _ p (omega arith) in
        subst (λ z. IsAgreement z.values.items b.values.items (agreement_in (rs ++ r ∷ []) p)) (sym i) (subst (IsAgreement (bid_in es p).values.items b.values.items) (sym j) (a.each p l))

-- ---- what the bids of a list keep

pub kept_none : (n : ℕ) → AreKept n [] []
kept_none n = record { size = refl; each = λ p l. absurd (omega arith) }

pub kept_same : (n : ℕ) (bs : List Bid) (b : Bid) (kept : List Counts) → int_lt b.weight (pos 0) ≡ false → AreKept n bs kept → AreKept n (bs ++ b ∷ []) kept
kept_same n bs b kept h r =
    let e = sym (negatives_same bs b h) in
    record {
      size = r.size ∙ ap length e;
      each = subst (λ es. (p : ℕ) → p < length es → IsCounted n (take (suc p) es) (bid_in es p) (counts_in kept p)) e r.each;
    }

pub kept_push : (n : ℕ) (bs : List Bid) (b : Bid) (kept : List Counts) (k : Counts) → int_lt b.weight (pos 0) ≡ true → AreKept n bs kept → IsCounted n (bs ++ b ∷ []) b k → AreKept n (bs ++ b ∷ []) (kept ++ k ∷ [])
kept_push n bs b kept k h r q =
    let es = negatives bs in
    let e = sym (negatives_push bs b h) in
    record {
      size = length-append kept (k ∷ []) ∙ ap (λ z. z + 1) r.size ∙ sym (length-append es (b ∷ [])) ∙ ap length e;
      each = subst (λ xs. (p : ℕ) → p < length xs → IsCounted n (take (suc p) xs) (bid_in xs p) (counts_in (kept ++ k ∷ []) p)) e (λ p l. at p (place_of es b p l));
    }
  where
    last : IsCounted n (negatives bs ++ b ∷ []) b k
    last = subst (λ es. IsCounted n es b k) (negatives_push bs b h) (record { at = λ i j l m. record { leads = λ d g c z. (q.at i j l m).leads d g c z ∙ ap (distinct_count int_eq) (leads_of_negatives i j d (other i j c) (bs ++ b ∷ [])) } })

    at : (p : ℕ) → (p ≡ length (negatives bs)) ⊎ (p < length (negatives bs)) → IsCounted n (take (suc p) (negatives bs ++ b ∷ [])) (bid_in (negatives bs ++ b ∷ []) p) (counts_in (kept ++ k ∷ []) p)
    at p (inl e) =
        let es = negatives bs in
        let xs = es ++ b ∷ [] in
        let i : bid_in xs p ≡ b = ap (bid_in xs) e ∙ get_or-append_seam es b [] _ in
        let j : counts_in (kept ++ k ∷ []) p ≡ k = ap (counts_in (kept ++ k ∷ [])) (e ∙ sym r.size) ∙ get_or-append_seam kept k [] _ in
        let t : take (suc p) xs ≡ xs = ap (λ (m : ℕ). take m xs) (let z = length-append es (b ∷ []) in let q : suc p ≡ length xs = omega arith in q) ∙ take-length xs in
        subst (λ ys. IsCounted n ys (bid_in xs p) (counts_in (kept ++ k ∷ []) p)) (sym t) (subst (λ z. IsCounted n xs z (counts_in (kept ++ k ∷ []) p)) (sym i) (subst (IsCounted n xs b) (sym j) last))
    at p (inr l) =
        let es = negatives bs in
        let xs = es ++ b ∷ [] in
        let size = r.size in
        let i : bid_in xs p ≡ bid_in es p = get_or_append_left es (b ∷ []) _ p l in
        let j : counts_in (kept ++ k ∷ []) p ≡ counts_in kept p = get_or_append_left kept (k ∷ []) _ p (omega arith) in
        let t : take (suc p) xs ≡ take (suc p) es = take-append-le (suc p) es (b ∷ []) (omega arith) in
        subst (λ ys. IsCounted n ys (bid_in xs p) (counts_in (kept ++ k ∷ []) p)) (sym t) (subst (λ z. IsCounted n (take (suc p) es) z (counts_in (kept ++ k ∷ []) p)) (sym i) (subst (IsCounted n (take (suc p) es) (bid_in es p)) (sym j) (r.each p l)))
