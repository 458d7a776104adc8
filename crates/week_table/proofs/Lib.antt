pub mod KindRows
