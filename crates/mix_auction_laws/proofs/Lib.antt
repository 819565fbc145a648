pub mod AnswerPrices
pub mod FairAnswers
pub mod OtherOrders
