use Rattle.std.proofs.Common.{◌≡◌, ◌∙◌, ◌≤◌, ◌+◌, ◌++◌, ℕ, ℤ, Bool, List, Ok, drop, length, take, append-nil, sym, ap, arith, inr, subst, refl}
use Rattle.std.proofs.lemmas.List.{drop_all, take_all}
use Rattle.mix_text.specs.AuctionTexts.{auction_text}
use Rattle.mix_text.proofs.Steps.{rows_from}
use Rattle.mix_own.specs.Readings.{IsSoFar, SoFar, as_error, nothing_told, own_row_of, range_from, with_ceiling}
use Rattle.mix_own.proofs.OwnedSoFar.{row_none}
use Rattle.mix_own.proofs.RangeRows.{own_end, own_more, own_none, own_wrong}
use Rattle.mix_own.proofs.reading.read_owned.Goals as goal

-- a slice written back whole
all_written : (n : ℕ) (new old : List Bool) → length new ≡ length old → n ≡ length old → take n (new ++ drop (length new) old) ≡ new
all_written n new old e f =
    let none = drop_all (length new) old (omega (arith, e)) in
    rw (none, append-nil new) (take_all n new (omega (arith, e, f)))

-- what is owned so far, and the marks
abbrev with_marks : List (List ℤ) → List Bool → SoFar
with_marks owned told = record { owned = owned; told = told }

pub loop-k-init : goal.loop-k-init
loop-k-init c =
    let a = auction_text c.args.auction.now in
    let first : record { owned = c.in_ok-owned.owned; told = c.in_ok-told.told.items } ≡ nothing_told a = rw (c.in_ok-owned.ensures.owned, c.in_ok-told.ensures.marks, c.count.ensures.value) refl in
    record {
      sound = subst (IsSoFar a) (sym first) (row_none a c.args.auction.now.sound);
      same = ap (λ (s : SoFar). range_from a c.args.rest.now.next s c.args.rest.now.rows) (sym first);
    }

pub returns-then-not-row_begins-clause-read : goal.returns-then-not-row_begins-clause-read
returns-then-not-row_begins-clause-read c =
    let a = auction_text c.args.auction.now in
    let next = c.args.rest.now.next in
    let so_far : SoFar = record { owned = c.loop-k.owned; told = c.loop-k.told.items } in
    let row = c.index-rows-k.result in
    let rows = c.args.rest.now.rows in
    let here = c.rows-rows.ensures in
    let from = rows_from rows c.loop-k.k row (rw here at c.loop-k-test.true) (rw here at c.index-rows-k.is) in
    c.loop-k.invariant.same ∙ ap (range_from a next so_far) from ∙ own_end a next so_far row _ c.if-not-row_begins.ensures ∙ ap (with_ceiling a next c.loop-k.owned) (sym from)

pub returns-in-Err-clause-wrong : goal.returns-in-Err-clause-wrong
returns-in-Err-clause-wrong c =
    let a = auction_text c.args.auction.now in
    let next = c.args.rest.now.next in
    let so_far : SoFar = record { owned = c.loop-k.owned; told = c.loop-k.told.items } in
    let row = c.index-rows-k.result in
    let rows = c.args.rest.now.rows in
    let here = c.rows-rows.ensures in
    let from = rows_from rows c.loop-k.k row (rw here at c.loop-k-test.true) (rw here at c.index-rows-k.is) in
    let wrong = own_wrong a next so_far row _ c.in-Err.code c.if-not-row_begins.ensures (rw c.deref_mut.ensures.value at c.in-Err.ensures.wrong) in
    inr (ap as_error (c.loop-k.invariant.same ∙ ap (range_from a next so_far) from ∙ wrong) ∙ rw (c.fault.ensures, c.number.ensures) refl)

pub loop-k-preserved : goal.loop-k-preserved
loop-k-preserved c =
    let a = auction_text c.args.auction.now in
    let next = c.args.rest.now.next in
    let row = c.index-rows-k.result in
    let rows = c.args.rest.now.rows in
    let so_far : SoFar = record { owned = c.loop-k.owned; told = c.loop-k.told.items } in
    let more : SoFar = record { owned = c.read_own.new.owned; told = c.read_own.new.told } in
    let here = c.rows-rows.ensures in
    let from = rows_from rows c.loop-k.k row (rw here at c.loop-k-test.true) (rw here at c.index-rows-k.is) in
    let sound : IsSoFar a more = c.in_default.ensures.sound in
    let long = c.in_default.ensures.sound.count in
    let before = c.loop-k.invariant.sound.count in
    let kept = all_written c.loop-k.told.len c.read_own.new.told c.loop-k.told.items (long ∙ sym before) c.loop-k.told.ok.0 in
    let told = ap (λ (marks : List Bool). with_marks c.read_own.new.owned marks) kept in
    let read : own_row_of a so_far row.fields ≡ Ok more = rw c.deref_mut.ensures.value at c.in_default.ensures.read in
    let all = own_more a next so_far more row _ c.if-not-row_begins.ensures read in
    record {
      sound = subst (IsSoFar a) (sym told) sound;
      same = c.loop-k.invariant.same ∙ ap (range_from a next so_far) from ∙ all ∙ ap (λ (s : SoFar). range_from a next s (drop (c.loop-k.k + 1) rows)) (sym told);
    }

pub returns-clause-read : goal.returns-clause-read
returns-clause-read c =
    let a = auction_text c.args.auction.now in
    let rows = c.args.rest.now.rows in
    let so_far : SoFar = record { owned = c.loop-k.owned; told = c.loop-k.told.items } in
    let long = ap length c.rows-rows.ensures in
    let end : length rows ≤ c.loop-k.k = omega (arith, long, c.loop-k-test.false) in
    let last : c.loop-k.k ≡ length c.rows-rows.result.now = omega (arith, c.loop-k-test.false, c.loop-k.auto.k-end) in
    c.loop-k.invariant.same ∙ own_none a c.args.rest.now.next so_far rows c.loop-k.k end ∙ ap (λ (k : ℕ). with_ceiling a c.args.rest.now.next c.loop-k.owned (drop k rows)) last
