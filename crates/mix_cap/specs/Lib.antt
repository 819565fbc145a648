pub mod Cappeds
pub mod Laws
pub mod Lots
pub mod MemberLaws
