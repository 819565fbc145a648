use Rattle.std.proofs.Common.{◌∙◌, sym, ap, rules, length, List, ℤ, arith}
use Rattle.mix_text.specs.AuctionTexts.{auction_text}
use Rattle.mix_answer.specs.Refusals.{IsTrueRefusal}
use Rattle.mix_serve.proofs.MembersInOrder.{members_count, same_goods}
use Rattle.mix_answer.proofs.TrueRefusals.{fits}
use Rattle.mix_serve.proofs.admission.admit.Goals as goal

pub new-requires-clause-few : goal.new-requires-clause-few
new-requires-clause-few c =
    let count = members_count (auction_text c.args.auction.now) c.in-Ok.members.items (search rules) in
    let few = c.args.auction.now.sound.few_bidders in
    omega (arith, count, few)

pub new-requires-clause-same_goods : goal.new-requires-clause-same_goods
new-requires-clause-same_goods c = λ k none h.
    let sound = c.args.auction.now.sound in
    same_goods (auction_text c.args.auction.now) c.in-Ok.members.items sound (search rules) k none h
    ∙ sym sound.supply.0
    ∙ ap (λ (supply : List ℤ). length supply) (sym c.new-seller.ensures.supply)

pub returns-in-Err-Refused : goal.returns-in-Err-Refused
returns-in-Err-Refused c =
    let refused : IsTrueRefusal (auction_text c.args.auction.now) c.in-Err-Refused.refusal = search rules in
    (refused, fits (auction_text c.args.auction.now) c.in-Err-Refused.refusal c.args.auction.now.sound refused)
