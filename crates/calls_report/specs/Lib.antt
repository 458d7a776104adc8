pub mod CallsReport
