use Rattle.std.proofs.Common.{◌≡◌, ◌++◌, drop, map}
use Rattle.std.specs.Fmt.{signed_decimal}
use Rattle.mix_text.proofs.page.Page.numbers.Given as goal

-- the fields so far, and the numbers from here on, are the fields at first and all numbers
abbrev pub invariant-loop-number : goal.invariant-loop-number
invariant-loop-number l = record {
  ended : l.self.ended ≡ l.fn.self.ended;
  so_far : l.self.fields ++ map signed_decimal (drop l.number-index l.numbers) ≡ l.fn.self.fields ++ map signed_decimal l.numbers;
}
