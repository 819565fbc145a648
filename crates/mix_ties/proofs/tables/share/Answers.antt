use Rattle.mix_ties.proofs.tables.share.Goals as goal
use Rattle.std.proofs.Common.{◌≡◌, ℕ, suc, ◌<◌, ◌^◌, ◌++◌, List, take, drop, length, ℤ, sym, ap, subst, ◌∙◌}
use Rattle.std.proofs.Math.Seq.{take-append_seam}
use Rattle.mix_num.specs.Shares.{sum_at}
use Rattle.mix_ties.specs.Shares.{AreProper, LiesInSum}
use Rattle.mix_ties.proofs.RowTurns.{rows-lie, first-turn}

pub sum_rows-requires-clause-range : goal.sum_rows-requires-clause-range
sum_rows-requires-clause-range c = λ k d lt set l.
    let rows : c.deref.result.now ≡ c.tables.inside.rows.items = c.deref.ensures.value in
    let proper : AreProper c.tables.inside.goods c.tables.inside.rows.items = rw (← c.tables.view_is) at c.requires.proper in
    let size : length c.deref_mut.result.now ≡ 2 ^ suc c.tables.inside.goods = ap (λ (xs : List ℤ). length xs) c.deref_mut.ensures.value ∙ c.tables.invariant.later in
    let h : k < length c.tables.inside.rows.items = subst (λ (xs : List (List ℤ)). k < length xs) rows lt in
    let m : set < 2 ^ suc c.tables.inside.goods = subst (λ (n : ℕ). set < n) size l in
    rw rows (rows-lie c.tables.inside.goods c.tables.inside.rows.items proper k d h set m)

pub share_in_turn-requires-clause-turn : goal.share_in_turn-requires-clause-turn
share_in_turn-requires-clause-turn c =
    let rows : c.deref.result.now ≡ c.tables.inside.rows.items = c.deref.ensures.value in
    let rows' : c.deref-2.result.now ≡ c.tables.inside.rows.items = c.deref-2.ensures.value in
    let proper : AreProper c.tables.inside.goods c.tables.inside.rows.items = rw (← c.tables.view_is) at c.requires.proper in
    let lies : LiesInSum c.tables.inside.goods c.tables.inside.rows.items c.args.supply.now.items = rw (← c.tables.view_is) at c.requires.lies in
    let size : length c.deref_mut.result.now ≡ 2 ^ suc c.tables.inside.goods = ap (λ (xs : List ℤ). length xs) c.deref_mut.ensures.value ∙ c.tables.invariant.later in
    let sum : List ℤ = c.sum_rows.new.sum in
    let long : c.tables.inside.later.len ≡ length c.sum_rows.new.sum = sym c.deref_mut.ensures.len ∙ sym c.sum_rows.auto.sum in
    let later : c.deref_mut-2.result.now ≡ c.sum_rows.new.sum =
    c.deref_mut-2.ensures.value
    ∙ ap (λ (k : ℕ). take k (c.sum_rows.new.sum ++ drop (length c.sum_rows.new.sum) c.tables.inside.later.items)) long
    ∙ take-append_seam c.sum_rows.new.sum (drop (length c.sum_rows.new.sum) c.tables.inside.later.items) in
    let turn = first-turn c.tables.inside.goods c.tables.inside.rows.items c.sum_rows.new.sum c.args.supply.now.items c.tables.invariant.few proper lies c.requires.supply
    (λ set h. c.sum_rows.ensures set (subst (λ (n : ℕ). set < n) (sym size) h) ∙ ap (λ (xs : List (List ℤ)). sum_at xs set) rows) in
    rw (later, rows') turn
