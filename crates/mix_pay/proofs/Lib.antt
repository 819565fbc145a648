mod ReceiptSums
pub mod PaymentBounds
