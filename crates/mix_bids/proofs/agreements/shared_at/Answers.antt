use Rattle.std.proofs.Common.{◌≡◌, ◌+◌, ◌∙◌, ℕ, ap, cond, subst, sym, true}
use Rattle.mix_num.specs.Vectors.{members}
use Rattle.mix_bids.specs.Shared.{agreeing, agreement_in, IsLast, IsShared}
use Rattle.mix_bids.proofs.SharedTurns.{last_found, last_left, shared_found, shared_left}
use Rattle.mix_bids.proofs.agreements.shared_at.Goals as goal
use Rattle.mix_bids.proofs.agreements.shared_at.Goals.{then-has, else-has}

pub loop-place-preserved : goal.loop-place-preserved
loop-place-preserved c =
    let rs = c.args.agreements.now in
    let i = c.args.first in
    let j = c.args.second in
    let m = c.loop-place.place in
    let t = λ (p : ℕ). agreeing (agreement_in rs p) j i in
    elim c.if-has.branch [
      | then-has w ↦
          let h : t m ≡ true = sym (c.has.ensures ∙ ap (λ z. members z i) c.from_bits-choices.ensures) ∙ w.if-has.true in
          record {
            last = subst (IsLast t (m + 1)) (sym (ap (λ z. z.last) w.shared-is)) (last_found t m h);
            choices = subst (IsShared rs i j (m + 1)) (sym (ap (λ z. z.choices) w.shared-is))
                (shared_found rs i j m _ _ h c.loop-place.invariant.choices (λ k. w.either.ensures k ∙ ap (λ z. cond (members c.loop-place.shared.choices k) true (members z k)) c.from_bits-choices.ensures));
          }
      | else-has w ↦
          let h = sym (c.has.ensures ∙ ap (λ z. members z i) c.from_bits-choices.ensures) ∙ w.if-has.false in
          record {
            last = subst (IsLast t (m + 1)) (sym (ap (λ z. z.last) w.shared-is)) (last_left t m _ h c.loop-place.invariant.last);
            choices = subst (IsShared rs i j (m + 1)) (sym (ap (λ z. z.choices) w.shared-is)) (shared_left rs i j m _ h c.loop-place.invariant.choices);
          }
    ]
