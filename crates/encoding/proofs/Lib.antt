pub mod EachPut
