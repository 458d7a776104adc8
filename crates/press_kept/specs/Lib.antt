pub mod PressKept
