pub mod DecimalWord
