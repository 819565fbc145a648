use Rattle.std.proofs.Common.{◌≡◌, ◌∙◌, ap, ap₂, ◌∷◌, [], List}
use Rattle.mix_bids.specs.declared.bid.Bid.{Bid}
use Rattle.mix_trial.specs.Trials.{block}
use Rattle.mix_trial.specs.Words.{words_of}
use Rattle.mix_trial.proofs.TrialBids.{block_is, four_more, if_ok_then, whenever}
use Rattle.mix_trial.proofs.bids.add_block.Goals as goal

pub returns-clause-added : goal.returns-clause-added
returns-clause-added c =
    let b = block_is (words_of c.args.words.now) _ _ _ _ _ _ c.draw-first.result c.draw.result c.draw-weight.result c.draw-low.result c.draw-other.result c.draw-more.result
    c.draw-first.ensures.value c.draw-first.ensures.rest c.draw.ensures.value c.draw.ensures.rest c.draw-weight.ensures.value c.draw-weight.ensures.rest
    c.draw-low.ensures.value c.draw-low.ensures.rest c.draw-other.ensures.value c.draw-other.ensures.rest c.draw-more.ensures.value c.draw-more.ensures.rest in
    let bids : (c.one_bid.result ∷ c.one_bid-2.result ∷ c.two_bid.result ∷ c.two_bid_back.result ∷ []) ≡ (block (words_of c.args.words.now)).0 =
    ap₂ (λ (x : Bid) (xs : List Bid). x ∷ xs) c.one_bid.ensures.value (ap₂ (λ (x : Bid) (xs : List Bid). x ∷ xs) c.one_bid-2.ensures.value (ap₂ (λ (x : Bid) (xs : List Bid). x ∷ xs) c.two_bid.ensures.value (ap (λ (x : Bid). x ∷ []) c.two_bid_back.ensures.value)))
    ∙ b.0 in
    let more = four_more c.args.list.now _ _ _ _ _ _ c.two_bid_back.result _ c.in_ok-add.ensures c.in_ok-add-2.ensures c.in_ok-add-3.ensures bids in
    if_ok_then _ _ c.add-4.result (λ e. e ∙ ap (λ (z : List Bid). record { goods = 5; bids = z }) more) c.add-4.ensures

pub returns-clause-rest : goal.returns-clause-rest
returns-clause-rest c =
    let b = block_is (words_of c.args.words.now) _ _ _ _ _ _ c.draw-first.result c.draw.result c.draw-weight.result c.draw-low.result c.draw-other.result c.draw-more.result
    c.draw-first.ensures.value c.draw-first.ensures.rest c.draw.ensures.value c.draw.ensures.rest c.draw-weight.ensures.value c.draw-weight.ensures.rest
    c.draw-low.ensures.value c.draw-low.ensures.rest c.draw-other.ensures.value c.draw-other.ensures.rest c.draw-more.ensures.value c.draw-more.ensures.rest in
    whenever _ c.add-4.result b.1
