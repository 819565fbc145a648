use Rattle.std.proofs.Common.{◌∙◌, ◌<◌, ◌≤◌, ◌+◌, ◌-◌, ℕ, ap, arith, cond, get_or, length, [], subst, sym}
use Rattle.mix_num.specs.Vectors.{members}
use Rattle.mix_bids.specs.Levels.{other}
use Rattle.mix_bids.specs.Counted.{cells_of_leads, counts_in}
use Rattle.mix_bids.specs.Shared.{agreeing, agreement_in, IsLast}
use Rattle.mix_bids.proofs.PairGrowths.{lacking_growth, lacking_leads, last_few, none_leads, some_leads}
use Rattle.mix_bids.proofs.Triangles.{pair_within}
use Rattle.mix_bids.proofs.counts.pair_growth.Goals as goal

pub returns-then-not-has_both-clause-cells : goal.returns-then-not-has_both-clause-cells
returns-then-not-has_both-clause-cells c = λ bs b k.
    lacking_growth _ bs b _ _ _ c.args.first c.args.second k c.requires.order c.requires.second (sym c.has_both.ensures ∙ c.if-not-has_both.true)

pub returns-then-not-has_both-clause-leads : goal.returns-then-not-has_both-clause-leads
returns-then-not-has_both-clause-leads c = λ bs b k.
    lacking_leads _ bs _ b _ _ _ c.args.first c.args.second _ k c.requires.order c.requires.second (sym c.has_both.ensures ∙ c.if-not-has_both.true)

pub offset_bounds-known-place : goal.offset_bounds-known-place
offset_bounds-known-place c = let k = c.requires.known.2 in let m = k.most in let p = pair_within c.args.first c.args.second c.requires.order (omega arith) in omega (arith, p)

pub bounds-known-place : goal.bounds-known-place
bounds-known-place c = let k = c.requires.known.2 in let m = k.most in let p = pair_within c.args.first c.args.second c.requires.order (omega arith) in omega (arith, p)

pub grown-requires-clause-few : goal.grown-requires-clause-few
grown-requires-clause-few c =
    let k = c.requires.known in
    let r = last_few _ k.0 k.1 _ _ _ c.args.first c.args.second c.in-Some.last k.2 c.requires.order c.requires.second (sym c.has_both.ensures ∙ c.if-not-has_both.false)
    (subst (IsLast (λ p. agreeing (agreement_in c.args.known.now.agreements.now p) c.args.second c.args.first) (length c.args.known.now.agreements.now)) c.in-Some.is c.shared_at-shared.ensures.last) in
    subst (λ (p : ℕ). (a : ℕ) → a < c.args.known.now.goods - 1 → get_or (get_or (counts_in c.args.known.now.kept.now c.in-Some.last).levels p []) a 0 ≤ 399) (sym c.requires.place) r

pub returns-in-Some-clause-cells : goal.returns-in-Some-clause-cells
returns-in-Some-clause-cells c = λ bs b k.
    let n = c.args.known.now.goods in
    let i = c.args.first in
    let j = c.args.second in
    let rs = c.args.known.now.agreements.now in
    let levels = (counts_in c.args.known.now.kept.now c.in-Some.last).levels in
    let e = ap (λ (p : ℕ). get_or levels p []) c.requires.place in
    let r = some_leads n bs b _ _ _ i j c.in-Some.last _ _ c.grown.result.leads k c.requires.order c.requires.second (sym c.has_both.ensures ∙ c.if-not-has_both.false)
    (subst (IsLast (λ p. agreeing (agreement_in rs p) j i) (length rs)) c.in-Some.is c.shared_at-shared.ensures.last)
    c.shared_at-shared.ensures.choices
    c.beyond-fresh.ensures
    (λ a l. c.grown.ensures.leads a l ∙ ap (λ us. get_or us a 0 + cond (members c.beyond-fresh.result (other i j a)) 1 0) e) in
    c.grown.ensures.cells ∙ ap (λ us. cells_of_leads n i j c.grown.result.leads - cells_of_leads n i j us) e ∙ r.1

pub returns-in-Some-clause-leads : goal.returns-in-Some-clause-leads
returns-in-Some-clause-leads c = λ bs b k.
    let i = c.args.first in
    let j = c.args.second in
    let rs = c.args.known.now.agreements.now in
    let levels = (counts_in c.args.known.now.kept.now c.in-Some.last).levels in
    let e = ap (λ (p : ℕ). get_or levels p []) c.requires.place in
    let r = some_leads c.args.known.now.goods bs b _ _ _ i j c.in-Some.last _ _ c.grown.result.leads k c.requires.order c.requires.second (sym c.has_both.ensures ∙ c.if-not-has_both.false)
    (subst (IsLast (λ p. agreeing (agreement_in rs p) j i) (length rs)) c.in-Some.is c.shared_at-shared.ensures.last)
    c.shared_at-shared.ensures.choices
    c.beyond-fresh.ensures
    (λ a l. c.grown.ensures.leads a l ∙ ap (λ us. get_or us a 0 + cond (members c.beyond-fresh.result (other i j a)) 1 0) e) in
    r.0

pub returns-in-None-clause-cells : goal.returns-in-None-clause-cells
returns-in-None-clause-cells c = λ bs b k.
    let i = c.args.first in
    let j = c.args.second in
    let rs = c.args.known.now.agreements.now in
    let r = none_leads c.args.known.now.goods bs b _ _ _ i j _ _ c.new_level.result.leads k c.requires.order c.requires.second (sym c.has_both.ensures ∙ c.if-not-has_both.false)
    (subst (IsLast (λ p. agreeing (agreement_in rs p) j i) (length rs)) c.in-None.is c.shared_at-shared.ensures.last)
    c.shared_at-shared.ensures.choices
    c.beyond-fresh.ensures
    c.new_level.ensures.leads in
    c.new_level.ensures.cells ∙ r.1

pub returns-in-None-clause-leads : goal.returns-in-None-clause-leads
returns-in-None-clause-leads c = λ bs b k.
    let i = c.args.first in
    let j = c.args.second in
    let rs = c.args.known.now.agreements.now in
    let r = none_leads c.args.known.now.goods bs b _ _ _ i j _ _ c.new_level.result.leads k c.requires.order c.requires.second (sym c.has_both.ensures ∙ c.if-not-has_both.false)
    (subst (IsLast (λ p. agreeing (agreement_in rs p) j i) (length rs)) c.in-None.is c.shared_at-shared.ensures.last)
    c.shared_at-shared.ensures.choices
    c.beyond-fresh.ensures
    c.new_level.ensures.leads in
    r.0
