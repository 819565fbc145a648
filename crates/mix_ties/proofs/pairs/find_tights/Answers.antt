use Rattle.std.proofs.Common.{◌≡◌, ◌≢◌, ℕ, suc, ◌+◌, ◌*◌, ◌^◌, ◌<◌, cond, List, ℤ, pos, ◌-ℤ◌, length, get_or, set, arith, sym, ap, ◌∙◌, subst, add-one, w64, to_z, of_z, below_more, get_or-set_other, get_or-set_same}
use Rattle.std.proofs.lemmas.Int.{ints}
use Rattle.mix_num.proofs.Additions.{counted_lies}
use Rattle.mix_num.specs.declared.pair.Tight.{Tight}
use Rattle.mix_num.specs.Pairs.{IsFirstTight}
use Rattle.mix_num.specs.Ranges.{Lies}
use Rattle.mix_num.specs.Tables.{number_of}
use Rattle.mix_num.specs.Vectors.{members}
use Rattle.mix_ties.proofs.TightLevels.{AreTaken, first_tight_of_level, level_of_tight}
use Rattle.mix_ties.proofs.TightPairs.{tight_of_greatest}
use Rattle.mix_ties.specs.Levels.{IsFirstLevel, IsLevel}
use Rattle.mix_ties.specs.Numbered.{LieWithin}
use Rattle.mix_ties.proofs.pairs.find_tights.Goals as goal

-- one good more is taken
taken_next : (n j size : ℕ) (xs old now new : List ℤ) (amount : ℤ) → size ≡ 2 ^ suc n → amount ≡ get_or xs j (pos 0) → AreTaken n j xs old now
    → ((set : ℕ) → set < size → number_of new set ≡ number_of now set -ℤ cond (members set (suc j)) amount (pos 0)) → AreTaken n (j + 1) xs old new
taken_next n j size xs old now new amount e a t more = subst (λ (i : ℕ). AreTaken n i xs old new) (sym (add-one j))
    (λ set l.
    let m = more set (subst (λ (k : ℕ). set < k) (sym e) l) in
    let p = t set l in
    let c = ap (λ (z : ℤ). cond (members set (suc j)) z (pos 0)) a in
    omega (arith, ints))

lies_next : (n j size : ℕ) (now new : List ℤ) (amount : ℤ) → size ≡ 2 ^ suc n → Lies 8000000 amount → LieWithin (2 ^ suc n) (2 ^ 41 + 8000000 * j) now
    → ((set : ℕ) → set < size → number_of new set ≡ number_of now set -ℤ cond (members set (suc j)) amount (pos 0)) → LieWithin (2 ^ suc n) (2 ^ 41 + 8000000 * (j + 1)) new
lies_next n j size now new amount e a r more = λ set l.
    let m = more set (subst (λ (k : ℕ). set < k) (sym e) l) in
    let p = r set l in
    let c = counted_lies 8000000 (members set (suc j)) amount a in
    (omega (arith, ints), omega (arith, ints))

pub first_tight-requires-clause-some : goal.first_tight-requires-clause-some
first_tight-requires-clause-some c =
    let n : ℕ = length c.args.bundle.now.items in
    let j : ℕ = c.loop-good.good in
    let xs : List ℤ = c.args.bundle.now.items in
    let lt : j < n = let l = c.loop-good-test.true in let p = c.requires.places in omega arith in
    let here = c.requires.bundle j (pos 0) lt in
    let same = ap (λ (y : List ℤ). get_or y j (pos 0)) c.deref.ensures.0 in
    let amount : to_z w64 (of_z w64 (get_or c.deref.result.now j (pos 0))) ≡ get_or xs j (pos 0) = omega (arith, ints, same, here) in
    let t = tight_of_greatest n j c.args.row.now (number_of c.args.floor.now) xs lt c.requires.greatest in
    let l = level_of_tight n j c.args.row.now c.args.floor.now c.loop-good.upper c.loop-good.floor xs c.loop-good.invariant.upper c.loop-good.invariant.lower t.0 t.1 t.2 in (
      t.0,
      t.1,
      subst (λ (k : ℕ). IsLevel k j c.loop-good.upper c.loop-good.floor (to_z w64 (of_z w64 (get_or c.deref.result.now j (pos 0)))) t.0 t.1) (sym c.len-goods.ensures.value)
          (subst (λ (a : ℤ). IsLevel n j c.loop-good.upper c.loop-good.floor a t.0 t.1) (sym amount) l),
    )

pub take_good-requires-clause-upper_range : goal.take_good-requires-clause-upper_range
take_good-requires-clause-upper_range c = λ set l.
    let e : c.sets_of-size.result ≡ 2 ^ suc (length c.args.bundle.now.items) = c.sets_of-size.ensures.value ∙ ap (λ (k : ℕ). 2 ^ suc k) c.len-goods.ensures.value in
    let r = c.loop-good.invariant.upper_range set (subst (λ (k : ℕ). set < k) e l) in
    let j : c.loop-good.good < 8 = let t = c.loop-good-test.true in let p = c.requires.places in let f = c.len-goods.ensures.fits in let v = c.len-goods.ensures.value in omega arith in
    (omega (arith, ints, r.0), omega (arith, ints, r.1))

pub take_good-requires-clause-lower_range : goal.take_good-requires-clause-lower_range
take_good-requires-clause-lower_range c = λ set l.
    let e : c.sets_of-size.result ≡ 2 ^ suc (length c.args.bundle.now.items) = c.sets_of-size.ensures.value ∙ ap (λ (k : ℕ). 2 ^ suc k) c.len-goods.ensures.value in
    let r = c.loop-good.invariant.lower_range set (subst (λ (k : ℕ). set < k) e l) in
    let j : c.loop-good.good < 8 = let t = c.loop-good-test.true in let p = c.requires.places in let f = c.len-goods.ensures.fits in let v = c.len-goods.ensures.value in omega arith in
    (omega (arith, ints, r.0), omega (arith, ints, r.1))

pub loop-good-preserved : goal.loop-good-preserved
loop-good-preserved c =
    let n : ℕ = length c.args.bundle.now.items in
    let j : ℕ = c.loop-good.good in
    let xs : List ℤ = c.args.bundle.now.items in
    let e : c.sets_of-size.result ≡ 2 ^ suc n = c.sets_of-size.ensures.value ∙ ap (λ (k : ℕ). 2 ^ suc k) c.len-goods.ensures.value in
    let lt : j < n = let l = c.loop-good-test.true in let p = c.requires.places in omega arith in
    let here = c.requires.bundle j (pos 0) lt in
    let same = ap (λ (y : List ℤ). get_or y j (pos 0)) c.deref.ensures.0 in
    let a : ℤ = to_z w64 (of_z w64 (get_or c.deref.result.now j (pos 0))) in
    let amount : a ≡ get_or xs j (pos 0) = omega (arith, ints, same, here) in
    let lies : Lies 8000000 a = subst (λ (z : ℤ). Lies 8000000 z) (sym amount) here in
    let i = c.loop-good.invariant in
    let t : IsFirstLevel n j c.loop-good.upper c.loop-good.floor (get_or xs j (pos 0)) c.first_tight.result.upper c.first_tight.result.lower =
    subst (λ (z : ℤ). IsFirstLevel n j c.loop-good.upper c.loop-good.floor z c.first_tight.result.upper c.first_tight.result.lower) amount
    (subst (λ (k : ℕ). IsFirstLevel k j c.loop-good.upper c.loop-good.floor a c.first_tight.result.upper c.first_tight.result.lower) c.len-goods.ensures.value c.first_tight.ensures) in
    let mine = first_tight_of_level n j c.args.row.now c.args.floor.now c.loop-good.upper c.loop-good.floor xs i.upper i.lower c.first_tight.result.upper c.first_tight.result.lower t in
    let new : List Tight = set c.loop-good.tights j c.first_tight.result in
    let P : ℕ → Type 0 = λ k. (d : Tight) → IsFirstTight n k c.args.row.now (number_of c.args.floor.now) xs (get_or new k d).upper (get_or new k d).lower in
    let R : ℕ → Tight → Type 0 = λ k t. IsFirstTight n k c.args.row.now (number_of c.args.floor.now) xs t.upper t.lower in
    let inside : j < length c.loop-good.tights = let l = c.loop-good-test.true in let s = c.loop-good.auto.tights in omega arith in
    let done : P j = λ d. subst (R j) (sym (get_or-set_same c.loop-good.tights j c.first_tight.result d inside)) mine in
    let kept : (k : ℕ) → k < j → P k = λ k h d. let ne : k ≢ j = omega arith in subst (R k) (sym (get_or-set_other c.loop-good.tights j k c.first_tight.result d ne)) (i.tights k d h) in
    record {
      upper = taken_next n j c.sets_of-size.result xs c.args.row.now c.loop-good.upper c.take_good.new.upper a e amount i.upper c.take_good.ensures.upper;
      lower = taken_next n j c.sets_of-size.result xs c.args.floor.now c.loop-good.floor c.take_good.new.lower a e amount i.lower c.take_good.ensures.lower;
      upper_range = lies_next n j c.sets_of-size.result c.loop-good.upper c.take_good.new.upper a e lies i.upper_range c.take_good.ensures.upper;
      lower_range = lies_next n j c.sets_of-size.result c.loop-good.floor c.take_good.new.lower a e lies i.lower_range c.take_good.ensures.lower;
      tights = λ k d h. below_more P j kept done k h d;
    }
