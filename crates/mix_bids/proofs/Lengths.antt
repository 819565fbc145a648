-- Lists whose bids all have n offers.
use Rattle.std.proofs.Common.{◌≡◌, ℕ, List, ◌∷◌, length, All}
use Rattle.std.proofs.lemmas.List.Elements.{All-head, All-tail, All-weaker}
use Rattle.mix_bids.specs.Bids.{AreBids, IsBid}
use Rattle.mix_bids.specs.declared.bid.Bid.{Bid}

abbrev pub AreOver : ℕ → List Bid → Type 0
AreOver n bs = All (λ b. length b.values.items ≡ n) bs

pub first_over : (n : ℕ) (b : Bid) (bs : List Bid) → AreOver n (b ∷ bs) → length b.values.items ≡ n
first_over n b bs o = All-head (λ b. length b.values.items ≡ n) b bs o

pub rest_over : (n : ℕ) (b : Bid) (bs : List Bid) → AreOver n (b ∷ bs) → AreOver n bs
rest_over n b bs o = All-tail (λ b. length b.values.items ≡ n) b bs o

pub over_of : (n : ℕ) (bs : List Bid) → AreBids n bs → AreOver n bs
over_of n bs a = All-weaker (IsBid n) (λ b. length b.values.items ≡ n) (λ b i. i.offers.size) bs a
