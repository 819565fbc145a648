-- What the checker may say of an outcome doesn't depend on the format of the auction.
use Rattle.std.proofs.Common.{◌≡◌, ◌∙◌, ℕ, ap, inl, inr, refl}
use Rattle.mix_text.specs.Auctions.{AuctionText}
use Rattle.mix_answer.specs.Truths.{IsTrueOutcome}
use Rattle.mix_answer.specs.declared.outcome.Outcome.{Outcome}
use Rattle.mix_answer.specs.declared.outcome.Outcome.TheVariants.{Cleared, Refused}
use Rattle.mix_check.specs.Orders.{IsFirstReason}
use Rattle.mix_check.specs.Reasons.{Holds}
use Rattle.mix_check.specs.declared.reason.Reason.{Reason}
use Rattle.mix_check.specs.declared.reason.Reason.TheVariants as reason
use Rattle.mix_run.specs.command.Check.{IsChecking, reason_row}
use Rattle.mix_run.specs.Outputs.{Output, one_row}

-- the same auction in a format
abbrev in_format : ℕ → AuctionText → AuctionText
in_format format a = record a { format = format }

true_same : (a : AuctionText) (format : ℕ) (outcome : Outcome) → IsTrueOutcome a outcome → IsTrueOutcome (in_format format a) outcome
true_same a format (Refused r) is = record { bidder = is.bidder; first = is.first; refused = is.refused; facet = is.facet }
true_same a format (Cleared answer) is = record { convex = is.convex; solution = is.solution; payments = is.payments; tights = is.tights }

holds_same : (a : AuctionText) (format : ℕ) (outcome : Outcome) (r : Reason) → Holds a outcome r → Holds (in_format format a) outcome r
holds_same a format (Refused r) (reason.Facet w) is = is
holds_same a format (Refused r) (reason.Earlier k) is = is
holds_same a format (Refused r) (reason.Invalid k) is = is
holds_same a format (Refused r) (reason.Floor i) is = is
holds_same a format (Refused r) (reason.Sum i sum) is = is
holds_same a format (Refused r) (reason.Return i) is = is
holds_same a format (Refused r) (reason.Demand k set) is = is
holds_same a format (Refused r) (reason.Lower set) is = is
holds_same a format (Refused r) (reason.Pay k amount) is = is
holds_same a format (Refused r) (reason.Pair k i) is = is
holds_same a format (Refused r) (reason.Tight k i bound) is = is
holds_same a format (Cleared answer) (reason.Facet w) is = is
holds_same a format (Cleared answer) (reason.Earlier k) is = is
holds_same a format (Cleared answer) (reason.Invalid k) is = is
holds_same a format (Cleared answer) (reason.Floor i) is = is
holds_same a format (Cleared answer) (reason.Sum i sum) is = is
holds_same a format (Cleared answer) (reason.Return i) is = is
holds_same a format (Cleared answer) (reason.Demand k set) is = is
holds_same a format (Cleared answer) (reason.Lower set) is = is
holds_same a format (Cleared answer) (reason.Pay k amount) is = is
holds_same a format (Cleared answer) (reason.Pair k i) is = is
holds_same a format (Cleared answer) (reason.Tight k i bound) is =
    let own = is.2 in
    (is.0, is.1, record { turn = own.turn; within = own.within; served = own.served; number = own.number; other = own.other })

first_same : (a : AuctionText) (format : ℕ) (outcome : Outcome) (r : Reason) → IsFirstReason a outcome r → IsFirstReason (in_format format a) outcome r
first_same a format outcome r is = record {
  holds = holds_same a format outcome r is.holds;
  first = λ other before holds. is.first other before (holds_same (in_format format a) a.format outcome other holds);
}

row_same : (a : AuctionText) (format : ℕ) (r : Reason) → reason_row a r ≡ reason_row (in_format format a) r
row_same a format (reason.Facet w) = refl
row_same a format (reason.Earlier k) = refl
row_same a format (reason.Invalid k) = refl
row_same a format (reason.Floor i) = refl
row_same a format (reason.Sum i sum) = refl
row_same a format (reason.Return i) = refl
row_same a format (reason.Demand k set) = refl
row_same a format (reason.Lower set) = refl
row_same a format (reason.Pay k amount) = refl
row_same a format (reason.Pair k i) = refl
row_same a format (reason.Tight k i bound) = refl

pub checking_same : (a : AuctionText) (format : ℕ) (outcome : Outcome) (output : Output) → IsChecking a outcome output → IsChecking (in_format format a) outcome output
checking_same a format outcome output (inl affirmed) = inl (true_same a format outcome affirmed.0, affirmed.1)
checking_same a format outcome output (inr denied) =
    let r = denied.0 in
    inr (r, (λ is. denied.1 (true_same (in_format format a) a.format outcome is)), first_same a format outcome r denied.2, denied.3 ∙ ap (one_row 1) (row_same a format r))
