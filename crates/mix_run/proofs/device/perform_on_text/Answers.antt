use Rattle.std.proofs.Common.{Err, ap, refl}
use Rattle.mix_run.proofs.Causes.{long_answered}
use Rattle.mix_run.proofs.Taken.{takes_at_most, takes_unread}
use Rattle.mix_run.proofs.device.perform_on_text.Goals as goal

pub returns-in-Err-TooLong-clause-answer : goal.returns-in-Err-TooLong-clause-answer
returns-in-Err-TooLong-clause-answer g c = λ seven.
    long_answered c.args.command _ _ _ _ _ _ (c.in-Err-TooLong.ensures.long (ap Err c.in-Err-TooLong.field-0-is)) c.write_out-in-Err-TooLong.ensures.written

pub returns-in-Ok-clause-taken : goal.returns-in-Ok-clause-taken
returns-in-Ok-clause-taken g c = takes_at_most c.read_all.result 16777216 16777217 _ _ refl c.read_all.ensures.taken

pub returns-in-Err-ReadFault-clause-taken : goal.returns-in-Err-ReadFault-clause-taken
returns-in-Err-ReadFault-clause-taken g c = takes_at_most c.read_all.result 16777216 16777217 _ _ refl c.read_all.ensures.taken

pub returns-in-Err-TooLong-clause-taken : goal.returns-in-Err-TooLong-clause-taken
returns-in-Err-TooLong-clause-taken g c = takes_at_most c.read_all.result 16777216 16777217 _ _ refl c.read_all.ensures.taken

pub returns-in-Err-Memory-clause-taken : goal.returns-in-Err-Memory-clause-taken
returns-in-Err-Memory-clause-taken g c = takes_at_most c.read_all.result 16777216 16777217 _ _ refl c.read_all.ensures.taken

pub returns-in-Err-ReadFault-clause-taken_unread : goal.returns-in-Err-ReadFault-clause-taken_unread
returns-in-Err-ReadFault-clause-taken_unread g c = λ five. takes_unread c.read_all.result 16777216 _ _ (cc) c.read_all.ensures.taken
