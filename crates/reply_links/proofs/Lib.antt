pub mod SendLemmas
