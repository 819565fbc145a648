mod FirstBidders
