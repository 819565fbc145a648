-- The trades of the first bidders.
use Rattle.std.proofs.Common.{◌≡◌, ◌∙◌, ℕ, ◌+◌, ◌<◌, ℤ, List, [], ◌∷◌, ◌++◌, length, get_or, map, take, ap, refl, sym, arith}
use Rattle.std.specs.List.{zip}
use Rattle.std.proofs.lemmas.List.{map_more, take_all}
use Rattle.std.proofs.lemmas.Slice.Zip.{get_or-zip, length-zip}
use Rattle.mix_answer.specs.declared.outcome.Answer.{Answer}
use Rattle.mix_answer.specs.declared.share.Share.{Share}
use Rattle.mix_own.specs.Trades.{trade_of, trades_of}
use Rattle.mix_own.specs.declared.trade.Trade.{Trade}

unfoldable pub trades_first : ℕ → List (List ℤ) → Answer → List Trade
trades_first m owned answer = map (λ p. trade_of answer.prices.items p.0 p.1) (take m (zip answer.shares owned))

pub trades_none : (owned : List (List ℤ)) (answer : Answer) → trades_first 0 owned answer ≡ []
unfolding trades_first
trades_none owned answer = refl

pub trades_more : (m : ℕ) (owned : List (List ℤ)) (answer : Answer) (share : Share) (own : List ℤ) → length owned ≡ length answer.shares → m < length answer.shares
    → share ≡ get_or answer.shares m share → own ≡ get_or owned m [] → trades_first (m + 1) owned answer ≡ trades_first m owned answer ++ trade_of answer.prices.items share own ∷ []
unfolding trades_first
trades_more m owned answer share own long l s o =
    let pairs : List (Share × List ℤ) = zip answer.shares owned in
    let inside : m < length pairs = omega (arith, length-zip answer.shares owned) in
    let here : get_or pairs m (share, []) ≡ (share, own) = get_or-zip answer.shares owned m (share, []) l (omega arith) ∙ ap (λ x. (x, get_or owned m [])) (sym s) ∙ ap (λ x. (share, x)) (sym o) in
    map_more (λ p. trade_of answer.prices.items p.0 p.1) pairs m (share, []) inside
    ∙ ap (λ (p : Share × List ℤ). map (λ q. trade_of answer.prices.items q.0 q.1) (take m pairs) ++ trade_of answer.prices.items p.0 p.1 ∷ []) here

pub trades_all : (m : ℕ) (owned : List (List ℤ)) (answer : Answer) → length owned ≡ length answer.shares → m ≡ length answer.shares → trades_first m owned answer ≡ trades_of owned answer
unfolding trades_first trades_of
trades_all m owned answer long e =
    ap (map (λ p. trade_of answer.prices.items p.0 p.1)) (take_all m (zip answer.shares owned) (omega (arith, length-zip answer.shares owned)))
