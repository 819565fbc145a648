-- Receipts, one bundle at a time.
use Rattle.std.proofs.Common.{◌≡◌, ℕ, ◌+◌, ◌<◌, List, ◌∷◌, length, map, get_or, drop, ℤ, ◌+ℤ◌, ap, ap₂, sym, ◌∙◌, add-one, drop-cons}
use Rattle.mix_num.specs.Sums.{dot_of}
use Rattle.mix_pay.specs.Receipts.{receipts_of}

pub receipts_next : {A : Type 0} (items : A → List ℤ) (prices : List ℤ) (bundles : List A) (i : ℕ) (bundle : A) → i < length bundles → bundle ≡ get_or bundles i bundle
    → receipts_of prices (map items (drop i bundles)) ≡ dot_of prices (items bundle) +ℤ receipts_of prices (map items (drop (i + 1) bundles))
receipts_next {A} items prices bundles i bundle h e =
    ap (λ (rest : List A). receipts_of prices (map items rest)) (drop-cons bundles i bundle h ∙ ap₂ (λ a k. a ∷ drop k bundles) (sym e) (sym (add-one i)))
