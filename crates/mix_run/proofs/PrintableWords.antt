-- The words for faults and limits may be printed.
use Rattle.std.proofs.Common.{◌≡◌, true, refl}
use Rattle.mix_text.specs.Pages.{is_printable}
use Rattle.mix_text.specs.declared.faults.Code.{Code}
use Rattle.mix_text.specs.declared.faults.Code.TheVariants as code
use Rattle.mix_text.specs.declared.faults.What.{What}
use Rattle.mix_text.specs.declared.faults.What.TheVariants as what
use Rattle.mix_run.specs.Words.{code_word, what_word}

pub printable_code : (c : Code) → is_printable (code_word c) ≡ true
printable_code code.Header = refl
printable_code code.Place = refl
printable_code code.Fields = refl
printable_code code.Name = refl
printable_code code.Repeated = refl
printable_code code.Number = refl
printable_code code.Range = refl
printable_code code.Weight = refl
printable_code code.Nothing = refl
printable_code code.End = refl
printable_code code.After = refl
printable_code code.Other = refl

pub printable_what : (w : What) → is_printable (what_word w) ≡ true
printable_what what.Bytes = refl
printable_what what.Goods = refl
printable_what what.Bidders = refl
printable_what what.Bids = refl
printable_what what.Negatives = refl
printable_what what.Cells = refl
printable_what what.Clears = refl
