pub mod HeaderAnswered
