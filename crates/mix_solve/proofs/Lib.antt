mod AuctionLaws
mod LeastPointsClear
