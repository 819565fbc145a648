-- The rows of an auction are read in the same way whatever rows follow them.
use Rattle.std.proofs.Common.{◌≡◌, ◌≢◌, ◌∙◌, sym, ap, ℕ, ℤ, pos, Option, ◌+◌, ◌≤◌, ◌<◌, List, [], ◌∷◌, ◌++◌, length, drop, true, Result, Ok, Err, arith, nat_lt, inl, inr}
use Rattle.std.specs.Prelude.{codes}
use Rattle.std.proofs.lemmas.Bool.{cases_Bool}
use Rattle.std.proofs.lemmas.Bool.Decides.{nat_tests}
use Rattle.std.proofs.lemmas.List.{drop-append-le, get_or_append_left, length-append}
use Rattle.mix_num.specs.Orders.{places}
use Rattle.mix_text.specs.Auctions.{AuctionText}
use Rattle.mix_text.specs.Bidders.{Named}
use Rattle.mix_text.specs.Caps.{no_caps}
use Rattle.mix_text.specs.Formats.{limits_of}
use Rattle.mix_text.specs.Reading.{◌>>=◌, NamedBid, bid_row_of, bidders_of, bids_from, cap_row_of, caps_from, end_from, end_of, ends_bids, goods_at, header_of, is_cap_row, is_order_row, limit_of, numbers_of, order_from, order_row_of, placed, read_at, reading_of, row_at, unless_past}
use Rattle.mix_text.specs.Rows.{RestText, RowText}
use Rattle.mix_text.specs.declared.faults.Code.{Code}
use Rattle.mix_text.specs.declared.faults.TextError.{TextError}
use Rattle.mix_text.specs.declared.formats.Limits.{Limits}
use Rattle.mix_run.proofs.RowsAfterBids.{ok_same}
use Rattle.mix_text.proofs.Sound.{then_ok}

-- a step that went well, and what came of it
then_is : {A B E : Type 0} (r : Result A E) (f : A → Result B E) (x : A) (y : Result B E) → r ≡ Ok x → f x ≡ y → (r >>= f) ≡ y
then_is (Ok z) f x y e h = let same : z ≡ x = cc e in ap f same ∙ h
then_is (Err c) f x y e h = cc e

row_within : (rows : List RowText) (k : ℕ) (row : RowText) → row_at rows k ≡ Ok row → k < length rows
row_within rows k row e = elim (cases_Bool (nat_lt k (length rows))) [
  | inl t ↦ grind (arith, nat_tests)
  | inr f ↦ absurd (let q = rw f at e in cc q)
]

row_more : (rows more : List RowText) (k : ℕ) (row : RowText) → row_at rows k ≡ Ok row → row_at (rows ++ more) k ≡ Ok row
row_more rows more k row e =
    let h = row_within rows k row e in
    let t : nat_lt k (length rows) ≡ true = grind (arith, nat_tests) in
    let u : nat_lt k (length (rows ++ more)) ≡ true = let l = length-append rows more in grind (arith, nat_tests) in
    let q = rw t at e in
    rw u (ap (λ z. Ok z) (get_or_append_left rows more (record { number = 0; fields = [] }) k h) ∙ q)

read_more : {X : Type 0} (rows more : List RowText) (k : ℕ) (read : List (List ℕ) → Result X Code) (x : X) → read_at rows k read ≡ Ok x → read_at (rows ++ more) k read ≡ Ok x
read_more rows more k read x e =
    let r = then_ok (row_at rows k) (λ row. placed row.number (read row.fields)) x e in
    then_is (row_at (rows ++ more) k) (λ row. placed row.number (read row.fields)) r.0 (Ok x) (row_more rows more k r.0 r.1) r.2

-- the bids end at a row, so those that follow it are left as they are
bids_more : (format : ℕ) (limits : Limits) (n : ℕ) (more : List RowText) (before : List NamedBid) (rows : List RowText) (bids : List NamedBid) (left : List RowText) → left ≢ []
    → bids_from format limits n before rows ≡ Ok (bids, left) → bids_from format limits n before (rows ++ more) ≡ Ok (bids, left ++ more)
unfolding bids_from
bids_more format limits n more before [] bids left some e = absurd (some (let same = ok_same (before, []) (bids, left) e in sym (ap (λ p. p.1) same)))
bids_more format limits n more before (row ∷ rest) bids left some e = elim (cases_Bool (ends_bids format row.fields)) [
  | inl t ↦ (
      let same = ok_same (before, row ∷ rest) (bids, left) (rw t at e) in
      rw t (ap (λ (p : List NamedBid × List RowText). Ok (p.0, p.1 ++ more)) same))
  | inr f ↦ (
      let q = rw f at e in
      let b = then_ok (placed row.number (bid_row_of n row.fields)) _ (bids, left) q in
      let within = then_ok (unless_past row.number (limit_of limits n before b.0)) _ (bids, left) b.2 in
      let next = bids_more format limits n more (before ++ (b.0 ∷ [])) rest bids left some within.2 in
      rw f (then_is (placed row.number (bid_row_of n row.fields)) _ b.0 (Ok (bids, left ++ more)) b.1
      (then_is (unless_past row.number (limit_of limits n before b.0)) _ within.0 (Ok (bids, left ++ more)) within.1 next)))
]

-- rows are left after the caps, so there were rows before them
caps_some : (format : ℕ) (bidders : Named) (caps : List (Option ℤ)) (rows : List RowText) (read : List (Option ℤ)) (left : List RowText) → left ≢ [] → caps_from format bidders caps rows ≡ Ok (read, left) → rows ≢ []
unfolding caps_from
caps_some format bidders caps [] read left some e = absurd (some (let same = ok_same (caps, []) (read, left) e in sym (ap (λ p. p.1) same)))
caps_some format bidders caps (row ∷ rest) read left some e = λ z. cc z

-- the caps end at a row, so those that follow it are left as they are
caps_more : (format : ℕ) (bidders : Named) (more : List RowText) (caps : List (Option ℤ)) (rows : List RowText) (read : List (Option ℤ)) (left : List RowText) → left ≢ []
    → caps_from format bidders caps rows ≡ Ok (read, left) → caps_from format bidders caps (rows ++ more) ≡ Ok (read, left ++ more)
unfolding caps_from
caps_more format bidders more caps [] read left some e = absurd (some (let same = ok_same (caps, []) (read, left) e in sym (ap (λ p. p.1) same)))
caps_more format bidders more caps (row ∷ rest) read left some e = elim (cases_Bool (is_cap_row format row.fields)) [
  | inl t ↦ (
      let one = then_ok (placed row.number (cap_row_of bidders caps row.fields)) _ (read, left) (rw t at e) in
      let next = caps_more format bidders more one.0 rest read left some one.2 in
      rw t (then_is (placed row.number (cap_row_of bidders caps row.fields)) _ one.0 (Ok (read, left ++ more)) one.1 next))
  | inr f ↦ (
      let same = ok_same (caps, row ∷ rest) (read, left) (rw f at e) in
      rw f (ap (λ (p : List (Option ℤ) × List RowText). Ok (p.0, p.1 ++ more)) same))
]

-- rows are left after the order, so there were rows before it
order_some : (format : ℕ) (bidders : Named) (rows : List RowText) (order : List ℕ) (left : List RowText) → left ≢ [] → order_from format bidders rows ≡ Ok (order, left) → rows ≢ []
unfolding order_from
order_some format bidders [] order left some e = absurd (some (let same = ok_same (places (length bidders), []) (order, left) e in sym (ap (λ p. p.1) same)))
order_some format bidders (row ∷ rest) order left some e = λ z. cc z

order_more : (format : ℕ) (bidders : Named) (more rows : List RowText) (order : List ℕ) (left : List RowText) → left ≢ [] → order_from format bidders rows ≡ Ok (order, left)
    → order_from format bidders (rows ++ more) ≡ Ok (order, left ++ more)
unfolding order_from
order_more format bidders more [] order left some e = absurd (some (let same = ok_same (places (length bidders), []) (order, left) e in sym (ap (λ p. p.1) same)))
order_more format bidders more (row ∷ rest) order left some e = elim (cases_Bool (is_order_row format row.fields)) [
  | inl t ↦ (
      let q = rw t at e in
      let stated = then_ok (placed row.number (order_row_of bidders row.fields)) _ (order, left) q in
      let same = ok_same (stated.0, rest) (order, left) stated.2 in
      rw t (then_is (placed row.number (order_row_of bidders row.fields)) _ stated.0 (Ok (order, left ++ more)) stated.1
      (ap (λ (p : List ℕ × List RowText). Ok (p.0, p.1 ++ more)) same)))
  | inr f ↦ (
      let same = ok_same _ (order, left) (rw f at e) in
      rw f (ap (λ (p : List ℕ × List RowText). Ok (p.0, p.1 ++ more)) same))
]

-- there is a row `end`
end_some : (next : ℕ) (rows rest : List RowText) → end_from next rows ≡ Ok rest → rows ≢ []
unfolding end_from
end_some next [] rest e = absurd (let q = e in cc q)
end_some next (row ∷ rows) rest e = λ z. cc z

end_more : (next later : ℕ) (more rows rest : List RowText) → end_from next rows ≡ Ok rest → end_from later (rows ++ more) ≡ Ok (rest ++ more)
unfolding end_from
end_more next later more [] rest e = absurd (let q = e in cc q)
end_more next later more (row ∷ rows) rest e =
    let ended = then_ok (placed row.number (end_of row.fields)) (λ _. Ok rows) rest e in
    let same = ok_same rows rest ended.2 in
    then_is (placed row.number (end_of row.fields)) (λ _. Ok (rows ++ more)) ended.0 (Ok (rest ++ more)) ended.1 (ap (λ (z : List RowText). Ok (z ++ more)) same)

-- rows from the order on that are read up to `end` are some
served_some : {X : Type 0} (format : ℕ) (bidders : Named) (rows : List RowText) (next : ℕ) (f : List ℕ × List RowText → List RowText → Result X TextError) (x : X)
    → (order_from format bidders rows >>= λ served. end_from next served.1 >>= λ rest. f served rest) ≡ Ok x → rows ≢ []
served_some format bidders rows next f x e =
    let stated = then_ok (order_from format bidders rows) (λ served. end_from next served.1 >>= λ rest. f served rest) x e in
    let ended = then_ok (end_from next stated.0.1) (f stated.0) x stated.2 in
    order_some format bidders rows stated.0.0 stated.0.1 (end_some next stated.0.1 ended.0 ended.1) stated.1

-- a reading of a longer text, step by step: what a step gives there, and so what all that follows it gives
then_longer : {A B E : Type 0} (r s : Result A E) (f g : A → Result B E) (longer : A → A) (y z : B) → ((x : A) → r ≡ Ok x → f x ≡ Ok y → (s ≡ Ok (longer x)) × (g (longer x) ≡ Ok z)) → (r >>= f) ≡ Ok y → (s >>= g) ≡ Ok z
then_longer r s f g longer y z step e =
    let was = then_ok r f y e in
    let is = step was.0 was.1 was.2 in
    then_is s g (longer was.0) (Ok z) is.0 is.1

goods_more : (rows more : List RowText) (limits : Limits) (goods : List (List ℕ)) → (row_at rows 1 >>= goods_at limits) ≡ Ok goods → (row_at (rows ++ more) 1 >>= goods_at limits) ≡ Ok goods
goods_more rows more limits goods e =
    let r = then_ok (row_at rows 1) (goods_at limits) goods e in
    then_is (row_at (rows ++ more) 1) (goods_at limits) r.0 (Ok goods) (row_more rows more 1 r.0 r.1) r.2

four_read : {X : Type 0} (rows : List RowText) (read : List (List ℕ) → Result X Code) (x : X) → read_at rows 3 read ≡ Ok x → 4 ≤ length rows
four_read rows read x e =
    let r = then_ok (row_at rows 3) (λ row. placed row.number (read row.fields)) x e in
    let h = row_within rows 3 r.0 r.1 in
    omega (arith, h)

pub read_longer : (rows more : List RowText) (a : AuctionText) (rest : RestText) → reading_of rows ≡ Ok (a, rest)
    → reading_of (rows ++ more) ≡ Ok (a, record { rows = rest.rows ++ more; next = length (rows ++ more) + 1 })
unfolding reading_of
read_longer rows more a rest read =
    let size = length (rows ++ more) + 1 in
    let longer : RestText → RestText = λ r. record { rows = r.rows ++ more; next = size } in
    let now : AuctionText × RestText = (a, rest) in
    let then : AuctionText × RestText = (a, longer rest) in
    then_longer (read_at rows 0 header_of) (read_at (rows ++ more) 0 header_of) _ _ (λ x. x) now then (λ format header_read after_header. (
      read_more rows more 0 header_of format header_read,
      then_longer (row_at rows 1 >>= goods_at (limits_of format)) (row_at (rows ++ more) 1 >>= goods_at (limits_of format)) _ _ (λ x. x) now then (λ goods goods_read after_goods. (
        goods_more rows more (limits_of format) goods goods_read,
        let amounts = λ (word : List ℕ). numbers_of word (length goods) (pos 0) (pos 1000000) in
            then_longer (read_at rows 2 (amounts (codes "supply"))) (read_at (rows ++ more) 2 (amounts (codes "supply"))) _ _ (λ x. x) now then (λ supply supply_read after_supply. (
              read_more rows more 2 (amounts (codes "supply")) supply supply_read,
              then_longer (read_at rows 3 (amounts (codes "reserve"))) (read_at (rows ++ more) 3 (amounts (codes "reserve"))) _ _ (λ x. x) now then (λ reserve reserve_read after_reserve. (
                read_more rows more 3 (amounts (codes "reserve")) reserve reserve_read,
                let bids_now = bids_from format (limits_of format) (length goods) [] in
                    then_longer (bids_now (drop 4 rows)) (bids_now (drop 4 (rows ++ more))) _ _ (λ p. (p.0, p.1 ++ more)) now then (λ bids bids_read after_bids. (
                      let bidders = bidders_of (length goods) bids.0 in
                          let capped = then_ok (caps_from format bidders (no_caps (length bidders)) bids.1) _ now after_bids in
                          let some = caps_some format bidders (no_caps (length bidders)) bids.1 capped.0.0 capped.0.1 (served_some format bidders capped.0.1 (length rows + 1) _ now capped.2) capped.1 in
                          ap bids_now (drop-append-le 4 rows more (four_read rows (amounts (codes "reserve")) reserve reserve_read))
                          ∙ bids_more format (limits_of format) (length goods) more [] (drop 4 rows) bids.0 bids.1 some bids_read,
                      let bidders = bidders_of (length goods) bids.0 in
                          let none = no_caps (length bidders) in
                          then_longer (caps_from format bidders none bids.1) (caps_from format bidders none (bids.1 ++ more)) _ _ (λ p. (p.0, p.1 ++ more)) now then (λ capped capped_read after_capped. (
                            caps_more format bidders more none bids.1 capped.0 capped.1 (served_some format bidders capped.1 (length rows + 1) _ now after_capped) capped_read,
                            then_longer (order_from format bidders capped.1) (order_from format bidders (capped.1 ++ more)) _ _ (λ p. (p.0, p.1 ++ more)) now then (λ order order_read after_order. (
                              let ended = then_ok (end_from (length rows + 1) order.1) _ now after_order in
                                  order_more format bidders more capped.1 order.0 order.1 (end_some (length rows + 1) order.1 ended.0 ended.1) order_read,
                              then_longer (end_from (length rows + 1) order.1) (end_from size (order.1 ++ more)) _ _ (λ x. x ++ more) now then (λ left left_read after_left. (
                                end_more (length rows + 1) size more order.1 left left_read,
                                let same = ok_same _ now after_left in
                                    ap (λ (p : AuctionText × RestText). Ok (p.0, longer p.1)) same,
                              )) after_order,
                            )) after_capped,
                          )) after_bids,
                    )) after_reserve,
              )) after_supply,
            )) after_goods,
      )) after_header,
    )) read
