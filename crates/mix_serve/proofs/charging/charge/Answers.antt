use Rattle.std.proofs.Common.{◌≡◌, ◌++◌, ◌∷◌, [], List, map, All, sym, ap, ap₂, ◌∙◌, append_assoc, subst}
use Rattle.std.proofs.lemmas.List.{map-append}
use Rattle.std.proofs.lemmas.List.Elements.{All-push}
use Rattle.mix_num.specs.Sums.{dot_of}
use Rattle.mix_answer.specs.declared.share.Share.{Share}
use Rattle.mix_serve.proofs.charging.charge.Goals as goal

pub loop-bundle-preserved : goal.loop-bundle-preserved
loop-bundle-preserved c =
    let pushed = c.in_ok-push.ensures.ok in
    let taken = c.in-Some.ensures.steps.0 in
    let own = c.share_of-share.ensures in
    let invariant = c.loop-bundle.invariant in
    let shares = c.loop-bundle.shares in
    let share = c.share_of-share.result in
    let before = c.loop-bundle.yielded in
    let Paid : Share → Type 0 = λ s. s.payment ≡ dot_of c.args.prices.now.items s.bundle.items in
    record {
      parts = append_assoc before (c.in-Some.bundle ∷ []) c.next.new.self.rest.items ∙ ap (λ xs. before ++ xs) (sym taken) ∙ invariant.parts;
      bundles =
          ap (λ (xs : List Share). map (λ s. s.bundle.items) xs) pushed
          ∙ map-append (λ (s : Share). s.bundle.items) shares (share ∷ [])
          ∙ ap₂ (λ xs x. xs ++ x ∷ []) invariant.bundles (ap (λ b. b.items) own.bundle)
          ∙ sym (map-append (λ b. b.items) before (c.in-Some.bundle ∷ []));
      payments = subst (All Paid) (sym pushed) (All-push Paid shares share invariant.payments (own.payment ∙ ap (λ b. dot_of c.args.prices.now.items b.items) (sym own.bundle)));
    }
