-- The functions of a market's members are utilities that keep the laws.
use Rattle.std.proofs.Common.{◌≡◌, ℕ, zero, suc, ◌<◌, ℤ, pos, List, [], ◌∷◌, All, length, map, get_or, ap, subst, arith}
use Rattle.std.proofs.lemmas.List.Elements.{All-head, All-tail}
use Rattle.mix_num.specs.Vectors.{Vector}
use Rattle.mix_law.specs.Members.{IsLNatural}
use Rattle.mix_law.specs.declared.convex.Convex.{Ghosts}
use Rattle.mix_market.specs.Markets.{goods_of, members_of}
use Rattle.mix_market.specs.declared.market.Market.{Market}
use Rattle.mix_clearing.specs.Utilities.{KeepLaws}

pub members_lawful : {D : Type 0} {goods : D → ℕ} {f : D → Vector → ℤ} {total : D → ℤ} {top : D → ℕ → ℤ} → ((member : D) → IsLNatural (goods member) (f member) (total member) (top member))
    → (n : ℕ) (members : List D) → All (λ member. goods member ≡ n) members → KeepLaws n (map f members)
members_lawful natural n [] same k l = absurd (omega arith)
members_lawful {D} {goods} {f} {total} {top} natural n (member ∷ members) same zero l = record {
  total = total member;
  top = top member;
  l_natural = subst (λ (k : ℕ). IsLNatural k (f member) (total member) (top member)) (All-head (λ d. goods d ≡ n) member members same) (natural member);
}
members_lawful {D} {goods} natural n (member ∷ members) same (suc k) l = members_lawful natural n members (All-tail (λ d. goods d ≡ n) member members same) k (omega arith)

pub market_lawful : {D : Type 0} {g : Ghosts D} (market : Market D g) → KeepLaws (goods_of market) (map g.function (members_of market))
market_lawful {g} market = members_lawful g.l_natural (goods_of market) (members_of market) market.membership.same_goods

-- the utility of the member at a place
pub member_utility : {D : Type 0} (f : D → Vector → ℤ) (members : List D) (k : ℕ) (member : D) → k < length members → member ≡ get_or members k member → f member ≡ get_or (map f members) k (λ x. pos 0)
member_utility f [] k member h e = absurd (omega arith)
member_utility f (first ∷ members) zero member h e = ap f e
member_utility f (first ∷ members) (suc k) member h e = member_utility f members k member (omega arith) e
