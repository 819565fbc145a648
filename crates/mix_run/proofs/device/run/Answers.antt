use Rattle.std.proofs.Common.{◌∙◌, arith}
use Rattle.mix_run.proofs.SwapsWritten.{written_between, written_clears, written_no_worse, written_receipts}
use Rattle.mix_run.proofs.UpgradedTexts.{upgrade_alike}
use Rattle.mix_run.proofs.device.run.Goals as goal

pub returns-clause-alike : goal.returns-clause-alike
returns-clause-alike g c = λ e s. upgrade_alike c.asked_by.result _ _ _ _ _ c.perform.result (c.perform.ensures.answer (λ q. absurd (omega (arith, s, q)))) (c.asked_by.ensures ∙ e) s

pub returns-clause-between : goal.returns-clause-between
returns-clause-between g c = λ e s. written_between c.asked_by.result _ _ _ _ _ c.perform.result (c.perform.ensures.answer (λ q. absurd (omega (arith, s, q)))) (c.asked_by.ensures ∙ e) s

pub returns-clause-clears : goal.returns-clause-clears
returns-clause-clears g c = λ e s. written_clears c.asked_by.result _ _ _ _ _ c.perform.result (c.perform.ensures.answer (λ q. absurd (omega (arith, s, q)))) (c.asked_by.ensures ∙ e) s

pub returns-clause-no_worse : goal.returns-clause-no_worse
returns-clause-no_worse g c = λ e s. written_no_worse c.asked_by.result _ _ _ _ _ c.perform.result (c.perform.ensures.answer (λ q. absurd (omega (arith, s, q)))) (c.asked_by.ensures ∙ e) s

pub returns-clause-receipts : goal.returns-clause-receipts
returns-clause-receipts g c = λ e s. written_receipts c.asked_by.result _ _ _ _ _ c.perform.result (c.perform.ensures.answer (λ q. absurd (omega (arith, s, q)))) (c.asked_by.ensures ∙ e) s
