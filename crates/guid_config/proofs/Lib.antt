pub mod KeyLemmas
pub mod ItemLemmas
pub mod PairLemmas
pub mod WorkedRows
pub mod AnswerLemmas
pub mod OrderLemmas
