use Rattle.std.proofs.Common.{◌≡◌, ◌++◌, All, map}
use Rattle.mix_num.specs.Sums.{dot_of}
use Rattle.mix_serve.proofs.charging.charge.Given as goal

-- the bundles so far with what they cost
abbrev pub invariant-loop-bundle : goal.invariant-loop-bundle
invariant-loop-bundle l = record {
  parts : l.yielded ++ l.bundle-iterator.rest.items ≡ l.fn.bundles.items;
  bundles : map (λ share. share.bundle.items) l.shares ≡ map (λ b. b.items) l.yielded;
  payments : All (λ share. share.payment ≡ dot_of l.prices.items share.bundle.items) l.shares;
}
