-- The names in a trial auction have the form of names, and those of different numbers are different.
use Rattle.std.proofs.Common.{◌≡◌, ◌≢◌, ◌∙◌, sym, ap, refl, ◌<◌, ◌+◌, ◌/◌, ◌%◌, true, false, ℕ, List, [], ◌∷◌, arith, Ok, None, Bool, not, inl, inr, suc, ◌++◌, length, nat_lt}
use Rattle.std.specs.List.{list_any, prefix_len}
use Rattle.std.specs.Str.{bytes_eq}
use Rattle.std.proofs.lemmas.Bool.{cases_Bool, false_from_ne_true}
use Rattle.std.proofs.lemmas.Bool.Decides.{nat_tests}
use Rattle.std.proofs.lemmas.List.Folds.{list_any-append}
use Rattle.mix_bids.specs.Bids.{Book}
use Rattle.mix_text.specs.Bidders.{Named, place_of}
use Rattle.mix_text.specs.Spelling.{is_name, is_name_byte, spelled_name}
use Rattle.mix_text.proofs.Gathering.{same_bytes}
use Rattle.mix_text.proofs.Spellings.{name_spelled}
use Rattle.mix_trial.specs.Trials.{bidder, bidder_name, bids}
use Rattle.mix_trial.specs.Words.{Words}

pub name_is : (field : List ℕ) → is_name field ≡ true → spelled_name field ≡ Ok field
name_is field h = name_spelled field h

digit : (d : ℕ) → d < 10 → is_name_byte (48 + d) ≡ true
digit d h = grind (arith, nat_tests)

pub bidder_named : (k : ℕ) → k < 100 → is_name (bidder_name k) ≡ true
bidder_named k h =
    let tens = digit (k / 10) (omega arith) in
    let ones = digit (k % 10) (omega arith) in
    rw (tens, ones) refl

pub names_differ : (j k : ℕ) → j ≢ k → bytes_eq (bidder_name j) (bidder_name k) ≡ false
names_differ j k d = false_from_ne_true (bytes_eq (bidder_name j) (bidder_name k)) (λ t.
    (let same = same_bytes (bidder_name j) (bidder_name k) t in
    let tens : 48 + j / 10 ≡ 48 + k / 10 = cc same in
    let ones : 48 + j % 10 ≡ 48 + k % 10 = cc same in
    d (omega arith)))

-- ---- bidders so far

any_before_end : {X : Type 0} (p : X → Bool) (xs : List X) → list_any p xs ≡ nat_lt (prefix_len (λ x. not (p x)) xs) (length xs)
any_before_end p [] = refl
any_before_end p (x ∷ xs) = elim (cases_Bool (p x)) [
  | inl t ↦ rw t (grind (arith, nat_tests))
  | inr f ↦ (let h = any_before_end p xs in rw f (grind (arith, nat_tests, h)))
]

-- a name that none has has no place
pub absent : (place : ℕ) (name : List ℕ) (bidders : Named) → name ≡ bidder_name (place + 1) → list_any (λ b. bytes_eq (bidder_name (suc place)) b.0) bidders ≡ false → place_of name bidders ≡ None
absent place name bidders e h =
    let next : place + 1 ≡ suc place = omega arith in
    let same : name ≡ bidder_name (suc place) = e ∙ ap bidder_name next in
    let test : nat_lt (prefix_len (λ b. not (bytes_eq (bidder_name (suc place)) b.0)) bidders) (length bidders) ≡ false = sym (any_before_end (λ b. bytes_eq (bidder_name (suc place)) b.0) bidders) ∙ h in
    rw (same, test) refl

pub entry_is : (place : ℕ) (bidders : Named) (name : List ℕ) (list : Book) (words : Words) → name ≡ bidder_name (place + 1) → list ≡ record { goods = 5; bids = (bids words).0 }
    → bidders ++ ((name, list) ∷ []) ≡ bidders ++ (bidder (suc place) words).0
entry_is place bidders name list words e h =
    let next : place + 1 ≡ suc place = omega arith in
    let same : name ≡ bidder_name (suc place) = e ∙ ap bidder_name next in
    rw (same, h) refl

pub none_later : (place k : ℕ) (bidders new : Named) (words : Words) → new ≡ bidders ++ (bidder (suc place) words).0 → place + 1 < k → list_any (λ b. bytes_eq (bidder_name k) b.0) bidders ≡ false → list_any (λ b. bytes_eq (bidder_name k) b.0) new ≡ false
none_later place k bidders new words e l h =
    let other = names_differ k (suc place) (λ z. absurd (omega arith)) in
    ap (list_any (λ b. bytes_eq (bidder_name k) b.0)) e ∙ list_any-append (λ b. bytes_eq (bidder_name k) b.0) bidders (bidder (suc place) words).0 ∙ rw (h, other) refl
