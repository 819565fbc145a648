-- A reply to words and a text in memory is what a call of the program writes of them where no device fails.
use Rattle.std.proofs.Common.{◌≡◌, ◌<◌, ◌∙◌, ℕ, List, [], Option, Some, None, Result, Ok, Err, arith, inl, inr, refl, sym}
use Rattle.std.specs.Prelude.{length, codes, IfOk}
use Rattle.mix_run.specs.Calls.{IsAnswered, IsOutput, IsWanted}
use Rattle.mix_run.specs.Outputs.{Output}
use Rattle.mix_run.specs.Replies.{output_of}
use Rattle.mix_run.specs.command.Trial.{IsTrialing}
use Rattle.mix_run.specs.declared.reply.Reply.{Reply}
use Rattle.mix_run.specs.declared.words.Command.{Command}
use Rattle.mix_run.specs.declared.words.Task.{Task}
use Rattle.mix_run.specs.declared.words.Task.TheVariants.{OnText, Trial}
use Rattle.mix_run.proofs.Causes.{long_text}

-- the row that is printed of a text of too many bytes is the output of the command
pub too_long_ok : {E : Type 0} (result : Result Reply E) (command : Command) (text : List ℕ) → 16777216 < length text
    → IfOk result (λ reply. let wanted : Output = record { status = 4; bytes = codes "limit,0,bytes\n" } in output_of reply ≡ wanted) → IfOk result (λ reply. IsOutput command text (output_of reply))
too_long_ok (Ok reply) command text long is = inl (long, is ∙ sym long_text)
too_long_ok (Err e) command text long is = tt

-- the output of a command on a text is what is wanted of it
pub wanted_of_text : {E : Type 0} (result : Result Reply E) (command : Command) (text : List ℕ) → IfOk result (λ reply. IsOutput command text (output_of reply))
    → IfOk result (λ reply. IsWanted (Some (OnText command)) (Some text) ⊥ (output_of reply))
wanted_of_text (Ok reply) command text is = record { unknown = tt; known = inr (text, refl, is) }
wanted_of_text (Err e) command text is = tt

-- the summary of a trial auction is what is wanted of it, whatever the text
pub wanted_of_trial : {E : Type 0} (result : Result Reply E) (number : ℕ) (text : Option (List ℕ)) → IfOk result (λ reply. IsTrialing number (output_of reply))
    → IfOk result (λ reply. IsWanted (Some (Trial number)) text ⊥ (output_of reply))
wanted_of_trial (Ok reply) number text is = record { unknown = tt; known = is }
wanted_of_trial (Err e) number text is = tt

-- a wanted output is an answer, where nothing was taken before it and nothing fails
pub answered : {E : Type 0} (result : Result Reply E) (task : Option Task) (text : Option (List ℕ)) → IfOk result (λ reply. reply.status < 5)
    → IfOk result (λ reply. IsWanted task text ⊥ (output_of reply)) → IfOk result (λ reply. IsAnswered task text ⊥ ⊥ (Some []) (Some reply.bytes.items) reply.status)
answered (Ok reply) task text low is = record {
  output = output_of reply;
  wanted = is;
  written = record { whole = λ s. (refl, refl); cut = λ s. absurd (omega (arith, s, low)) };
}
answered (Err e) task text low is = tt
