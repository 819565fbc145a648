-- A reply as the output that it is.
use Rattle.mix_run.specs.Outputs.{Output}
use Rattle.mix_run.specs.declared.reply.Reply.{Reply}

abbrev pub output_of : Reply → Output
output_of reply = record { status = reply.status; bytes = reply.bytes.items }
