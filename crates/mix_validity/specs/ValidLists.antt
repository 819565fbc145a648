-- What contracts see of a valid list.
use Rattle.mix_bids.specs.Bids.{Book}
use Rattle.mix_validity.specs.declared.valid_list.ValidList.{ValidList}

-- its goods and its bids
abbrev pub book_of : ValidList → Book
book_of valid = valid.list
