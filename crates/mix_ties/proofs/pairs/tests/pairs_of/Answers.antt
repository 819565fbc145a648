use Rattle.std.proofs.Common.{◌≡◌, suc, ◌^◌, List, [], ◌∷◌, length, ℤ, ap, ap₂, sym, subst, ◌∙◌, arith, rules}
use Rattle.mix_ties.specs.Numbered.{goods_part, table_over}
use Rattle.mix_ties.specs.Peeled.{greedy}
use Rattle.mix_ties.proofs.Contractions.{LieWithin-mono}
use Rattle.mix_ties.proofs.pairs.tests.pairs_of.Goals.{After-push-2}
use Rattle.mix_ties.proofs.pairs.tests.pairs_of.Goals as goal

bundle_is : (c : After-push-2) → c.push-2.new.self.items ≡ c.args.first ∷ c.args.second ∷ []
bundle_is c = search rules

pub find_tights-requires-clause-row_range : goal.find_tights-requires-clause-row_range
find_tights-requires-clause-row_range c =
    let e = ap length (bundle_is (goal.at.find_tights-requires-clause-row_range c).After-push-2) in
    LieWithin-mono 8 (2 ^ suc (length c.push-2.new.self.items)) 128 (2 ^ 30) c.table.result (let s = ap (λ k. 2 ^ suc k) e in omega arith) (omega arith) c.table.ensures.range

pub find_tights-requires-clause-floor_range : goal.find_tights-requires-clause-floor_range
find_tights-requires-clause-floor_range c =
    let e = ap length (bundle_is (goal.at.find_tights-requires-clause-floor_range c).After-push-2) in
    LieWithin-mono 8 (2 ^ suc (length c.push-2.new.self.items)) 128 (2 ^ 41) c.table-2.result (let s = ap (λ k. 2 ^ suc k) e in omega arith) (omega arith) c.table-2.ensures.range

pub find_tights-requires-clause-greatest : goal.find_tights-requires-clause-greatest
find_tights-requires-clause-greatest c =
    let e = bundle_is (goal.at.find_tights-requires-clause-greatest c).After-push-2 in
    subst (λ (xs : List ℤ). xs ≡ goods_part (length xs) (greedy (suc (length xs)) (table_over (length xs) c.table.result) (table_over (length xs) c.table-2.result))) (sym e)
    (c.requires ∙ ap₂ (λ (r f : List ℤ). goods_part 2 (greedy 3 (table_over 2 r) (table_over 2 f))) (sym c.table.ensures.value) (sym c.table-2.ensures.value))
