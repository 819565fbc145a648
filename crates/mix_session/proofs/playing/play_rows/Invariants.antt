use Rattle.std.proofs.Common.{drop}
use Rattle.mix_session.specs.Plays.{IsPlaying}
use Rattle.mix_session.specs.Readings.{session_of}
use Rattle.mix_session.proofs.playing.play_rows.Given as goal

-- the rows before this one are played
abbrev pub invariant-loop-k : goal.invariant-loop-k
invariant-loop-k g l = IsPlaying (session_of l.fn.playing.session.auction l.rest) l.playing l.rest.next (drop l.k l.rest.rows)
