use Rattle.std.proofs.Common.{◌≡◌, ◌<◌, ◌-◌, false, ℕ, suc}
use Rattle.std.specs.List.{list_any}
use Rattle.std.specs.Str.{bytes_eq}
use Rattle.mix_trial.specs.Draws.{for_each}
use Rattle.mix_trial.specs.Trials.{bidder, bidder_name}
use Rattle.mix_trial.specs.Words.{words_of}
use Rattle.mix_trial.proofs.DrawnTurns.{more}
use Rattle.mix_trial.proofs.bidders.draw_bidders.Given as goal

-- the bidders so far, and those drawn from here on, are all of them; none so far has a later name
abbrev pub invariant-loop-place : goal.invariant-loop-place
invariant-loop-place l = record {
  so_far : more bidder l.bidders (40 - l.place) (suc l.place) (words_of l.words) ≡ for_each 40 1 bidder (words_of l.fn.words);
  later : (k : ℕ) → l.place < k → list_any (λ b. bytes_eq (bidder_name k) b.0) l.bidders ≡ false;
}
